-- Document 03's lines: one of good form by 03 is one here, and says the same node.
use Rattle.std.specs.Prelude.{◌≡◌, refl, Bool, true, false, ◌&&◌, ◌||◌, cond, List, [], ◌∷◌, map, ℕ, suc, ◌-◌, ◌≤◌, ◌<◌, ltb, leb, eqb, length, get_or, None, Some}
use Rattle.std.proofs.Common.{sym, ap, ap₂, subst, ◌∙◌, arith, leb-false, le-leb, ltb-true, lt-ltb, eqb-true, eq-eqb}
use Rattle.std.proofs.lemmas.Bool.{false≢true}
use Rattle.syntax.specs.declared.Leaf.TheVariants.{Nothing, Letter, Range}
use Rattle.syntax.specs.declared.Node.{Node as OwnNode}
use Rattle.syntax.specs.declared.Node.TheVariants.{Leaf as LeafNode, Sequence, Alternative, Star}
use Rattle.syntax.specs.declared.Line.{Line}
use Rattle.syntax.specs.Bools.{and_fst, and_snd, and_intro}
use Rattle.syntax.specs.Table.{account_limit}
use Rattle.fields.specs.Text.{place, single, account, when, star_of}
use Rattle.fields.specs.Text.{node_of_none, node_of_one, range_of, parts_of, node_of_two, node_of, with_account, line_of, row_line}
use Rattle.fields.specs.Text.{good, fault, line_front, forms}
use Rattle.theorems.specs.Paper03Pattern.{Node, Line as TextLine, fields, place_value, is_place}
use Rattle.theorems.specs.Paper03Pattern.{is_letter as is_letter_field, account_value, kind_value, field, line_good, node_in, nodes_in, forms_from}
use Rattle.theorems.specs.Paper03Pattern.{refusal}
use Rattle.theorems.specs.Paper03Read.{star_kind, node_as, line_as}
use Rattle.theorems.specs.Paper03Fields.{row_of, place_same, is_place_same, long, account_same, letter_same}

-- ── kinds ──
abbrev pub kind_by : ℕ → ℕ
kind_by b = cond (eqb b 69) 0 (cond (eqb b 76) 1 (cond (eqb b 82) 2 (cond (eqb b 83) 3 (cond (eqb b 65) 4 (cond (eqb b 75) 5 (cond (eqb b 90) 6 7))))))

pub kind_same : (w : List ℕ) → kind_value w ≡ kind_by (single w)
unfolding kind_value single
kind_same [] = refl
kind_same (a ∷ []) = refl
kind_same (a ∷ b ∷ more) = rw (long more) refl

-- the bytes of `K` and `Z`
abbrev pub star_byte : (again : Bool) → ℕ
star_byte false = 75
star_byte true = 90

data Kind (c k : ℕ) : Type 0 where
  is_E : c ≡ 69 → k ≡ 0 → Kind c k
  is_L : c ≡ 76 → k ≡ 1 → Kind c k
  is_R : c ≡ 82 → k ≡ 2 → Kind c k
  is_S : c ≡ 83 → k ≡ 3 → Kind c k
  is_A : c ≡ 65 → k ≡ 4 → Kind c k
  is_star : (again : Bool) → c ≡ star_byte again → k ≡ star_kind again → Kind c k
  no_kind : k ≡ 7 → Kind c k

kinds : (c : ℕ) → Kind c (kind_by c)
kinds c = go (eqb c 69) refl (eqb c 76) refl (eqb c 82) refl (eqb c 83) refl (eqb c 65) refl (eqb c 75) refl (eqb c 90) refl
  where
    go : (e : Bool) → eqb c 69 ≡ e → (l : Bool) → eqb c 76 ≡ l → (r : Bool) → eqb c 82 ≡ r → (s : Bool) → eqb c 83 ≡ s
        → (a : Bool) → eqb c 65 ≡ a → (k : Bool) → eqb c 75 ≡ k → (z : Bool) → eqb c 90 ≡ z
        → Kind c (cond e 0 (cond l 1 (cond r 2 (cond s 3 (cond a 4 (cond k 5 (cond z 6 7)))))))
    go true h l hl r hr s hs a ha k hk z hz = is_E (eqb-true c 69 h) refl
    go false h true hl r hr s hs a ha k hk z hz = is_L (eqb-true c 76 hl) refl
    go false h false hl true hr s hs a ha k hk z hz = is_R (eqb-true c 82 hr) refl
    go false h false hl false hr true hs a ha k hk z hz = is_S (eqb-true c 83 hs) refl
    go false h false hl false hr false hs true ha k hk z hz = is_A (eqb-true c 65 ha) refl
    go false h false hl false hr false hs false ha true hk z hz = is_star false (eqb-true c 75 hk) refl
    go false h false hl false hr false hs false ha false hk true hz = is_star true (eqb-true c 90 hz) refl
    go false h false hl false hr false hs false ha false hk false hz = no_kind refl

-- ── a line: what its kind needs ──
abbrev pub needs : (k : ℕ) → (ws : List (List ℕ)) → Bool
needs k ws =
    cond (eqb k 0) (eqb (length ws) 3)
    (cond (eqb k 1) (eqb (length ws) 4 && is_letter_field (field ws 3))
    (cond (eqb k 2) (eqb (length ws) 5 && ((is_letter_field (field ws 3) && is_letter_field (field ws 4))
    && leb (get_or (field ws 3) 0 0) (get_or (field ws 4) 0 0)))
    (cond (eqb k 5 || eqb k 6) (eqb (length ws) 4 && is_place (field ws 3)) (eqb (length ws) 5 && (is_place (field ws 3) && is_place (field ws 4))))))

abbrev node_by : (k c : ℕ) → (ws : List (List ℕ)) → Node
node_by k c ws = record {
  kind = k;
  account = c;
  a = cond (leb k 2) (get_or (field ws 3) 0 0) (cond (eqb (length ws) 3) 0 (place_value (field ws 3)));
  b = cond (leb (length ws) 4) 0 (cond (leb k 2) (get_or (field ws 4) 0 0) (place_value (field ws 4)));
}

size_in : (a b c d : Bool) (n : ℕ) (x y z w : Bool)
    → cond a (eqb n 3) (cond b (eqb n 4 && x) (cond c (eqb n 5 && y) (cond d (eqb n 4 && z) (eqb n 5 && w)))) ≡ true → (3 ≤ n) × (n ≤ 5)
size_in true b c d n x y z w h = let e = eqb-true n 3 h in (omega arith, omega arith)
size_in false true c d n x y z w h = let e = eqb-true n 4 (and_fst (eqb n 4) x h) in (omega arith, omega arith)
size_in false false true d n x y z w h = let e = eqb-true n 5 (and_fst (eqb n 5) y h) in (omega arith, omega arith)
size_in false false false true n x y z w h = let e = eqb-true n 4 (and_fst (eqb n 4) z h) in (omega arith, omega arith)
size_in false false false false n x y z w h = let e = eqb-true n 5 (and_fst (eqb n 5) w h) in (omega arith, omega arith)

sizes : (k : ℕ) (ws : List (List ℕ)) → needs k ws ≡ true → (3 ≤ length ws) × (length ws ≤ 5)
sizes k ws h =
    size_in (eqb k 0) (eqb k 1) (eqb k 2) (eqb k 5 || eqb k 6) (length ws) (is_letter_field (field ws 3))
    ((is_letter_field (field ws 3) && is_letter_field (field ws 4)) && leb (get_or (field ws 3) 0 0) (get_or (field ws 4) 0 0))
    (is_place (field ws 3)) (is_place (field ws 3) && is_place (field ws 4)) h

-- the node that the fields behind the account say
abbrev Says : (c : ℕ) → (more : List (List ℕ)) → (kind account : ℕ) → (ws : List (List ℕ)) → Type 0
Says c more k a ws = (n : OwnNode) × (node_of c more ≡ Some n) × (node_by k a ws ≡ node_as a n)

too_many : (k : ℕ) → k ≡ 7 → ltb k 7 ≡ true → ⊥
too_many k e h = let z = ltb-true k 7 h in omega arith

never : (k : ℕ) (ws : List (List ℕ)) (j : ℕ) → k ≡ j → needs j ws ≡ false → needs k ws ≡ true → ⊥
never k ws j e f h = false≢true (sym f ∙ ap (λ i. needs i ws) (sym e) ∙ h)

-- a star has four fields, the last one a place
star_three : (again : Bool) (p q u : List ℕ) → needs (star_kind again) (p ∷ q ∷ u ∷ []) ≡ false
star_three false p q u = refl
star_three true p q u = refl

star_four : (again : Bool) (p q u x : List ℕ) → needs (star_kind again) (p ∷ q ∷ u ∷ x ∷ []) ≡ is_place x
unfolding field
star_four false p q u x = refl
star_four true p q u x = refl

star_five : (again : Bool) (p q u x y : List ℕ) → needs (star_kind again) (p ∷ q ∷ u ∷ x ∷ y ∷ []) ≡ false
star_five false p q u x y = refl
star_five true p q u x y = refl

star_said : (again : Bool) (x : List ℕ) → node_of_one (star_byte again) x ≡ star_of again (place x)
unfolding node_of_one
star_said false x = refl
star_said true x = refl

star_by : (again : Bool) (c : ℕ) (p q u x : List ℕ)
    → node_by (star_kind again) c (p ∷ q ∷ u ∷ x ∷ []) ≡ record { kind = star_kind again; account = c; a = place_value x; b = 0 }
unfolding field
star_by false c p q u x = refl
star_by true c p q u x = refl

three : (p q u : List ℕ) (k c : ℕ) → Kind (single q) k → ltb k 7 ≡ true → needs k (p ∷ q ∷ u ∷ []) ≡ true → Says (single q) [] k c (p ∷ q ∷ u ∷ [])
unfolding node_of node_of_none field
three p q u k c (is_E e z) l h = (LeafNode Nothing, ap (λ x. when (eqb x 69) (LeafNode Nothing)) e, ap (λ j. node_by j c (p ∷ q ∷ u ∷ [])) z)
three p q u k c (is_L e z) l h = absurd (never k (p ∷ q ∷ u ∷ []) 1 z refl h)
three p q u k c (is_R e z) l h = absurd (never k (p ∷ q ∷ u ∷ []) 2 z refl h)
three p q u k c (is_S e z) l h = absurd (never k (p ∷ q ∷ u ∷ []) 3 z refl h)
three p q u k c (is_A e z) l h = absurd (never k (p ∷ q ∷ u ∷ []) 4 z refl h)
three p q u k c (is_star a e z) l h = absurd (never k (p ∷ q ∷ u ∷ []) (star_kind a) z (star_three a p q u) h)
three p q u k c (no_kind z) l h = absurd (too_many k z l)

four : (p q u x : List ℕ) (k c : ℕ) → Kind (single q) k → ltb k 7 ≡ true → needs k (p ∷ q ∷ u ∷ x ∷ []) ≡ true
    → Says (single q) (x ∷ []) k c (p ∷ q ∷ u ∷ x ∷ [])
unfolding node_of node_of_one field
four p q u x k c (is_L e z) l h =
    let (a, b) = letter_same x (ap (λ j. needs j (p ∷ q ∷ u ∷ x ∷ [])) (sym z) ∙ h) in (
      LeafNode (Letter (single x)),
      ap (λ y. node_of_one y x) e ∙ ap (λ y. when y (LeafNode (Letter (single x)))) a,
      ap (λ j. node_by j c (p ∷ q ∷ u ∷ x ∷ [])) z ∙ ap (λ y. record { kind = 1; account = c; a = y; b = 0 }) b,
    )
four p q u x k c (is_star s e z) l h =
    let (a, b) = is_place_same x (sym (star_four s p q u x) ∙ ap (λ j. needs j (p ∷ q ∷ u ∷ x ∷ [])) (sym z) ∙ h) in (
      Star s (place x),
      ap (λ y. node_of_one y x) e ∙ star_said s x ∙ ap (λ y. when y (Star s (place x))) b,
      ap (λ j. node_by j c (p ∷ q ∷ u ∷ x ∷ [])) z ∙ star_by s c p q u x
          ∙ ap (λ y. record { kind = star_kind s; account = c; a = y; b = 0 }) (sym a),
    )
four p q u x k c (is_E e z) l h = absurd (never k (p ∷ q ∷ u ∷ x ∷ []) 0 z refl h)
four p q u x k c (is_R e z) l h = absurd (never k (p ∷ q ∷ u ∷ x ∷ []) 2 z refl h)
four p q u x k c (is_S e z) l h = absurd (never k (p ∷ q ∷ u ∷ x ∷ []) 3 z refl h)
four p q u x k c (is_A e z) l h = absurd (never k (p ∷ q ∷ u ∷ x ∷ []) 4 z refl h)
four p q u x k c (no_kind z) l h = absurd (too_many k z l)

five : (p q u x y : List ℕ) (k c : ℕ) → Kind (single q) k → ltb k 7 ≡ true → needs k (p ∷ q ∷ u ∷ x ∷ y ∷ []) ≡ true
    → Says (single q) (x ∷ y ∷ []) k c (p ∷ q ∷ u ∷ x ∷ y ∷ [])
unfolding node_of node_of_two range_of parts_of field
five p q u x y k c (is_R e z) l h =
    let g : ((is_letter_field x && is_letter_field y) && leb (get_or x 0 0) (get_or y 0 0)) ≡ true =
    ap (λ j. needs j (p ∷ q ∷ u ∷ x ∷ y ∷ [])) (sym z) ∙ h in
    let both = and_fst (is_letter_field x && is_letter_field y) (leb (get_or x 0 0) (get_or y 0 0)) g in
    let (a, b) = letter_same x (and_fst (is_letter_field x) (is_letter_field y) both) in
    let (v, w) = letter_same y (and_snd (is_letter_field x) (is_letter_field y) both) in
    let o : leb (single x) (single y) ≡ true =
    ap₂ leb (sym b) (sym w) ∙ and_snd (is_letter_field x && is_letter_field y) (leb (get_or x 0 0) (get_or y 0 0)) g in (
      LeafNode (Range (single x) (single y)),
      ap (λ j. node_of_two j x y) e ∙ ap (λ j. when j (LeafNode (Range (single x) (single y)))) (and_intro (and_intro a v) o),
      ap (λ j. node_by j c (p ∷ q ∷ u ∷ x ∷ y ∷ [])) z ∙ ap₂ (λ i j. record { kind = 2; account = c; a = i; b = j }) b w,
    )
five p q u x y k c (is_S e z) l h =
    let g : (is_place x && is_place y) ≡ true = ap (λ j. needs j (p ∷ q ∷ u ∷ x ∷ y ∷ [])) (sym z) ∙ h in
    let (a, b) = is_place_same x (and_fst (is_place x) (is_place y) g) in
    let (v, w) = is_place_same y (and_snd (is_place x) (is_place y) g) in (
      Sequence (place x) (place y),
      ap (λ j. node_of_two j x y) e ∙ ap (λ j. when j (Sequence (place x) (place y))) (and_intro b w),
      ap (λ j. node_by j c (p ∷ q ∷ u ∷ x ∷ y ∷ [])) z ∙ ap₂ (λ i j. record { kind = 3; account = c; a = i; b = j }) (sym a) (sym v),
    )
five p q u x y k c (is_A e z) l h =
    let g : (is_place x && is_place y) ≡ true = ap (λ j. needs j (p ∷ q ∷ u ∷ x ∷ y ∷ [])) (sym z) ∙ h in
    let (a, b) = is_place_same x (and_fst (is_place x) (is_place y) g) in
    let (v, w) = is_place_same y (and_snd (is_place x) (is_place y) g) in (
      Alternative (place x) (place y),
      ap (λ j. node_of_two j x y) e ∙ ap (λ j. when j (Alternative (place x) (place y))) (and_intro b w),
      ap (λ j. node_by j c (p ∷ q ∷ u ∷ x ∷ y ∷ [])) z ∙ ap₂ (λ i j. record { kind = 4; account = c; a = i; b = j }) (sym a) (sym v),
    )
five p q u x y k c (is_E e z) l h = absurd (never k (p ∷ q ∷ u ∷ x ∷ y ∷ []) 0 z refl h)
five p q u x y k c (is_L e z) l h = absurd (never k (p ∷ q ∷ u ∷ x ∷ y ∷ []) 1 z refl h)
five p q u x y k c (is_star s e z) l h = absurd (never k (p ∷ q ∷ u ∷ x ∷ y ∷ []) (star_kind s) z (star_five s p q u x y) h)
five p q u x y k c (no_kind z) l h = absurd (too_many k z l)

account_few : (c : ℕ) → ltb c 201 ≡ true → leb c account_limit ≡ true
account_few c h = let l = ltb-true c 201 h in le-leb c account_limit (omega arith)

-- the fields of a line, from the first on
by_fields : (i : ℕ) (ws : List (List ℕ)) → i < 64 → eqb (place_value (field ws 0)) i ≡ true → ltb (account_value (field ws 2)) 201 ≡ true
    → ltb (kind_value (field ws 1)) 7 ≡ true → needs (kind_value (field ws 1)) ws ≡ true
    → (l : Line) × (line_of i ws ≡ Some l) × (node_by (kind_value (field ws 1)) (account_value (field ws 2)) ws ≡ line_as l)
unfolding line_of field
by_fields i [] s a b c h = let z = sizes (kind_value []) [] h in absurd (omega arith)
by_fields i (p ∷ []) s a b c h = let z = sizes (kind_value []) (p ∷ []) h in absurd (omega arith)
by_fields i (p ∷ q ∷ []) s a b c h = let z = sizes (kind_value q) (p ∷ q ∷ []) h in absurd (omega arith)
by_fields i (p ∷ q ∷ u ∷ more) s a b c h = done (node more h)
  where
    kind : Kind (single q) (kind_value q)
    kind = subst (Kind (single q)) (sym (kind_same q)) (kinds (single q))

    node : (more : List (List ℕ)) → needs (kind_value q) (p ∷ q ∷ u ∷ more) ≡ true
        → Says (single q) more (kind_value q) (account_value u) (p ∷ q ∷ u ∷ more)
    node [] g = three p q u (kind_value q) (account_value u) kind c g
    node (x ∷ []) g = four p q u x (kind_value q) (account_value u) kind c g
    node (x ∷ y ∷ []) g = five p q u x y (kind_value q) (account_value u) kind c g
    node (x ∷ y ∷ z ∷ ws) g = let k = sizes (kind_value q) (p ∷ q ∷ u ∷ x ∷ y ∷ z ∷ ws) g in absurd (omega arith)

    own : place p ≡ i
    own = let e = eqb-true (place_value p) i a in place_same p (omega arith) ∙ e

    done : Says (single q) more (kind_value q) (account_value u) (p ∷ q ∷ u ∷ more)
        → (l : Line) × (cond (eqb (place p) i) (with_account (account u) (node_of (single q) more)) None ≡ Some l)
        × (node_by (kind_value q) (account_value u) (p ∷ q ∷ u ∷ more) ≡ line_as l)
    done (n, e, f) = (
      record { account = account_value u; node = n },
      ap (λ y. cond y (with_account (account u) (node_of (single q) more)) None) (eq-eqb (place p) i own)
          ∙ ap₂ with_account (sym (account_same u)) e ∙ ap (λ y. when y (record { account = account_value u; node = n })) (account_few (account_value u) b),
      f,
    )

ended : (i : ℕ) (ws : List (List ℕ)) (l : Line) (closed : Bool) → closed ≡ true → line_of i ws ≡ Some l → cond closed (line_of i ws) None ≡ Some l
ended i ws l true c e = e
ended i ws l false c e = absurd (false≢true c)

-- a line of good form by 03 is one here, and the same node
pub line_in : (i : ℕ) (x : TextLine) → i < 64 → line_good i x ≡ true → (l : Line) × (row_line i (row_of x) ≡ Some l) × (node_in x ≡ line_as l)
unfolding line_good node_in row_line
line_in i x s h =
    let ws = fields x.text in
    let k = kind_value (field ws 1) in
    let placed = x.closed && eqb (place_value (field ws 0)) i in
    let known = ltb (account_value (field ws 2)) 201 && ltb k 7 in
    let first = and_fst (placed && known) (needs k ws) h in
    let front = and_fst placed known first in
    let back = and_snd placed known first in
    let (l, e, f) =
    by_fields i ws s (and_snd x.closed (eqb (place_value (field ws 0)) i) front) (and_fst (ltb (account_value (field ws 2)) 201) (ltb k 7) back)
    (and_snd (ltb (account_value (field ws 2)) 201) (ltb k 7) back) (and_snd (placed && known) (needs k ws) h) in
    (l, ended i (fields x.text) l x.closed (and_fst x.closed (eqb (place_value (field ws 0)) i) front) e, f)

-- and so are all lines
pub formed : (i : ℕ) (ls : List TextLine) → (forms_from i ls).number ≡ 0
    → (xs : List Line) × (forms i (map row_of ls) ≡ good xs) × (nodes_in ls ≡ map line_as xs)
unfolding forms forms_from nodes_in refusal
formed i [] h = ([], refl, refl)
formed i (x ∷ ls) h = go (leb 64 i) refl (line_good i x) refl h (formed (suc i) ls)
  where
    go : (b : Bool) → leb 64 i ≡ b → (c : Bool) → line_good i x ≡ c → (cond b (refusal 1 64) (cond c (forms_from (suc i) ls) (refusal 1 i))).number ≡ 0
        → ((forms_from (suc i) ls).number ≡ 0 → (xs : List Line) × (forms (suc i) (map row_of ls) ≡ good xs) × (nodes_in ls ≡ map line_as xs))
        → (xs : List Line) × (cond (ltb i 64) (line_front i (row_line i (row_of x)) (forms (suc i) (map row_of ls))) (fault 64) ≡ good xs)
        × (node_in x ∷ nodes_in ls ≡ map line_as xs)
    go true e c f g ih = absurd (omega arith)
    go false e false f g ih = absurd (omega arith)
    go false e true f g ih =
        let s : i < 64 = leb-false 64 i e in
        let (l, q, n) = line_in i x s f in
        let (xs, r, ns) = ih g in (
          l ∷ xs,
          ap (λ y. cond y (line_front i (row_line i (row_of x)) (forms (suc i) (map row_of ls))) (fault 64)) (lt-ltb i 64 s) ∙ ap₂ (line_front i) q r,
          ap₂ (λ y z. y ∷ z) n ns,
        )
