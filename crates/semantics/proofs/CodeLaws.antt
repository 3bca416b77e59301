-- LAWS of codes as bits: the computed forms say what 01 says of a code; of two codes of a tree neither begins the other, and the first bit
-- that differs puts one before the other.
use Rattle.std.proofs.Common.{◌∙◌, ap, subst, sym, true≢false, append-nil}
use Rattle.std.specs.Prelude.{◌≡◌, refl, ◌&&◌, Bool, false, not, true, ◌↔◌, ◌++◌, ◌∷◌, List, [], ℕ, leb, length}
use Rattle.std.proofs.lemmas.Bool.{false≢true}
use Rattle.std.proofs.Math.Option.{Option, none-ne-some, some-injective, none, some}
use Rattle.syntax.specs.Tree.{Tree}
use Rattle.semantics.specs.Value.{Value, flat, nonproblematic}
use Rattle.semantics.specs.Code.{code, code_limit, IsCode, Spells, NoEmptyRound, before}
use Rattle.semantics.specs.Decode.{decode, whole_of, value_of, there, spelled_by, hollow_in, is_code, spelled, hollow}
use Rattle.semantics.proofs.Basics.{and_intro, leb_le, le_leb}
use Rattle.semantics.proofs.DecodeLaws.{decode-code, code_split, decode_sound}
use Rattle.semantics.proofs.BeforeLaws.{before_prefix}
use Rattle.semantics.proofs.OrderLaws.{Compared, same, above, beneath, compared_map}

-- ── the value of a code ──
pub value_of-code : (t : Tree) (v : Value t) → value_of t (code t v) ≡ some v
unfolding value_of
value_of-code t v = ap (decode t whole_of) (sym (append-nil (code t v))) ∙ decode-code t v whole_of []

whole_only : {A : Type 0} (v x : A) (r : List Bool) → whole_of v r ≡ some x → (v ≡ x) × (r ≡ [])
whole_only v x [] e = (some-injective v x e, refl)
whole_only v x (b ∷ r) e = absurd (none-ne-some x e)

pub value_of_sound : (t : Tree) (bs : List Bool) (v : Value t) → value_of t bs ≡ some v → code t v ≡ bs
unfolding value_of
value_of_sound t bs v h =
    let (x, r, e, g) = decode_sound t whole_of bs v h in
    let (p, q) = whole_only x v r g in
    sym (e ∙ ap (λ z. code t x ++ z) q ∙ append-nil (code t x) ∙ ap (code t) p)

-- ── the computed forms ──
pub is_code_iff : (t : Tree) (bs : List Bool) → (is_code t bs ≡ true) ↔ IsCode t bs
unfolding is_code
is_code_iff t bs = (λ h. to (value_of t bs) refl h, from)
  where
    to : (o : Option (Value t)) → value_of t bs ≡ o → (there o && leb (length bs) code_limit) ≡ true → IsCode t bs
    to none e h = absurd (false≢true h)
    to (some v) e h = record { value = v; written = value_of_sound t bs v e; within = leb_le (length bs) code_limit h }

    from : IsCode t bs → (there (value_of t bs) && leb (length bs) code_limit) ≡ true
    from c = and_intro (ap (λ l. there (value_of t l)) (sym c.written) ∙ ap there (value_of-code t c.value)) (le_leb (length bs) code_limit c.within)

pub spelled-code : (t : Tree) (v : Value t) → spelled t (code t v) ≡ flat t v
unfolding spelled
spelled-code t v = ap (spelled_by t) (value_of-code t v)

pub hollow-code : (t : Tree) (v : Value t) → hollow t (code t v) ≡ not (nonproblematic t v)
unfolding hollow
hollow-code t v = ap (hollow_in t) (value_of-code t v)

module _ (t : Tree) (bs : List Bool) (c : IsCode t bs) where
  pub spelled_is : spelled t bs ≡ flat t c.value
  spelled_is = ap (spelled t) (sym c.written) ∙ spelled-code t c.value

  pub hollow_is : hollow t bs ≡ not (nonproblematic t c.value)
  hollow_is = ap (hollow t) (sym c.written) ∙ hollow-code t c.value

pub spells_iff : (t : Tree) (bs : List Bool) (w : List ℕ) → ((is_code t bs ≡ true) × (spelled t bs ≡ w)) ↔ Spells t bs w
spells_iff t bs w = (
  λ p. let c = (is_code_iff t bs).0 p.0 in record { whole = c; same = sym (spelled_is t bs c) ∙ p.1 },
  λ s. ((is_code_iff t bs).1 s.whole, spelled_is t bs s.whole ∙ s.same),
)

not-not : (b : Bool) → not b ≡ false → b ≡ true
not-not true e = refl
not-not false e = absurd (true≢false e)

pub solid_iff : (t : Tree) (bs : List Bool) → ((is_code t bs ≡ true) × (hollow t bs ≡ false)) ↔ NoEmptyRound t bs
solid_iff t bs = (
  λ p. let c = (is_code_iff t bs).0 p.0 in record { whole = c; solid = not-not (nonproblematic t c.value) (sym (hollow_is t bs c) ∙ p.1) },
  λ s. ((is_code_iff t bs).1 s.whole, hollow_is t bs s.whole ∙ ap not s.solid),
)

-- ── two codes ──
data Met (xs ys : List Bool) : Type 0 where
  short : (r : List Bool) → ys ≡ xs ++ r → Met xs ys
  long : (r : List Bool) → xs ≡ ys ++ r → Met xs ys
  fore : before xs ys ≡ true → Met xs ys
  aft : before ys xs ≡ true → Met xs ys

meet_cons : (b : Bool) (xs ys : List Bool) → Met xs ys → Met (b ∷ xs) (b ∷ ys)
meet_cons b xs ys (short r e) = short r (ap (λ z. b ∷ z) e)
meet_cons b xs ys (long r e) = long r (ap (λ z. b ∷ z) e)
meet_cons false xs ys (fore h) = fore h
meet_cons true xs ys (fore h) = fore h
meet_cons false xs ys (aft h) = aft h
meet_cons true xs ys (aft h) = aft h

meet : (xs ys : List Bool) → Met xs ys
meet [] ys = short ys refl
meet (x ∷ xs) [] = long (x ∷ xs) refl
meet (false ∷ xs) (false ∷ ys) = meet_cons false xs ys (meet xs ys)
meet (false ∷ xs) (true ∷ ys) = fore refl
meet (true ∷ xs) (false ∷ ys) = aft refl
meet (true ∷ xs) (true ∷ ys) = meet_cons true xs ys (meet xs ys)

-- any two values: one value, or the first bit that differs tells which code comes first
pub code_compare : (t : Tree) (v x : Value t) → Compared (v ≡ x) (before (code t v) (code t x) ≡ true) (before (code t x) (code t v) ≡ true)
code_compare t v x = go (meet (code t v) (code t x))
  where
    go : Met (code t v) (code t x) → Compared (v ≡ x) (before (code t v) (code t x) ≡ true) (before (code t x) (code t v) ≡ true)
    go (short r e) = same (code_split t v x r [] (sym e ∙ sym (append-nil (code t x)))).0
    go (long r e) = same (code_split t v x [] r (append-nil (code t v) ∙ e)).0
    go (fore h) = above h
    go (aft h) = beneath h

-- 01: "Of two different codes of one pattern neither begins the other, so some bit inside both differs"
pub codes_compare : (t : Tree) (bs cs : List Bool) → IsCode t bs → IsCode t cs → Compared (bs ≡ cs) (before bs cs ≡ true) (before cs bs ≡ true)
codes_compare t bs cs c d =
    subst (λ x. Compared (x ≡ cs) (before x cs ≡ true) (before cs x ≡ true)) c.written
    (subst (λ y. Compared (code t c.value ≡ y) (before (code t c.value) y ≡ true) (before y (code t c.value) ≡ true)) d.written
    (compared_map (ap (code t)) (code_compare t c.value d.value)))

pub codes_part : (t : Tree) (bs cs : List Bool) → IsCode t bs → IsCode t (bs ++ cs) → cs ≡ []
codes_part t bs cs c d =
    sym (code_split t d.value c.value [] cs (append-nil (code t d.value) ∙ d.written ∙ ap (λ l. l ++ cs) (sym c.written))).1

-- what `before` says: up to some bit inside both they agree, and there the first has 0 and the second 1
pub record Parts (xs ys : List Bool) : Type 0 where
  pub shared : List Bool
  pub left : List Bool
  pub right : List Bool
  pub zero-here : xs ≡ shared ++ (false ∷ left)
  pub one_here : ys ≡ shared ++ (true ∷ right)

parts_cons : (b : Bool) (xs ys : List Bool) → Parts xs ys → Parts (b ∷ xs) (b ∷ ys)
parts_cons b xs ys p =
    record { shared = b ∷ p.shared; left = p.left; right = p.right; zero-here = ap (λ z. b ∷ z) p.zero-here; one_here = ap (λ z. b ∷ z) p.one_here }

parts_of : (xs ys : List Bool) → before xs ys ≡ true → Parts xs ys
parts_of [] ys h = absurd (false≢true h)
parts_of (x ∷ xs) [] h = absurd (false≢true h)
parts_of (false ∷ xs) (false ∷ ys) h = parts_cons false xs ys (parts_of xs ys h)
parts_of (false ∷ xs) (true ∷ ys) h = record { shared = []; left = xs; right = ys; zero-here = refl; one_here = refl }
parts_of (true ∷ xs) (false ∷ ys) h = absurd (false≢true h)
parts_of (true ∷ xs) (true ∷ ys) h = parts_cons true xs ys (parts_of xs ys h)

pub before_iff : (xs ys : List Bool) → (before xs ys ≡ true) ↔ Parts xs ys
before_iff xs ys = (
  parts_of xs ys,
  λ p. ap (λ z. before z ys) p.zero-here ∙ ap (before (p.shared ++ (false ∷ p.left))) p.one_here
      ∙ before_prefix p.shared (false ∷ p.left) (true ∷ p.right),
)
