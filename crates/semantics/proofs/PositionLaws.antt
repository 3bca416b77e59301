-- LAWS of walks over a code: an equation for each kind of node and each thing that the bits at the position can be.
-- `f` is any function of the value; the pair and the round have one form, so that a service proves "one after the other" once.
use Rattle.std.proofs.Common.{◌∙◌, ap₂, sym, append-nil, add-one, length-append, drop_at, drop-cons, drop-drop}
use Rattle.std.specs.Prelude.{◌≡◌, Bool, cond, not, ◌++◌, ◌∷◌, List, [], ◌+◌, ◌-◌, ◌<◌, ◌^◌, ◌≤◌, suc, zero, ℕ, get_or}
use Rattle.std.proofs.Math.Path.{ap, refl}
use Rattle.std.proofs.Math.Bool.{Bool-set, false, true}
use Rattle.std.proofs.Math.Logic.{inl, inr}
use Rattle.std.proofs.Math.Option.{Option, none-ne-some, some-injective, bind, none, some}
use native.Mathlib.Omega.{arith}
use Rattle.std.proofs.Math.ListN.{drop, length, length-drop}
use Rattle.syntax.specs.Letter.{in_range}
use Rattle.syntax.specs.Tree.{Label, Tree, nothing, letter, range, seq, alt, star}
use Rattle.semantics.specs.Value.{Value}
use Rattle.semantics.specs.Code.{code}
use Rattle.semantics.specs.Decode.{get_bits, checked, Read, read}
use Rattle.semantics.specs.Positions.{seen, see, joined, and_then, number_at}
use Rattle.semantics.proofs.Basics.{not-both}
use Rattle.semantics.proofs.DecodeLaws.{read_code, read_sound, read_seq, read_left, read_right, read_stop, read-round}

drop_past : (bs : List Bool) (i : ℕ) → length bs ≤ i → drop i bs ≡ []
drop_past [] zero h = refl
drop_past [] (suc i) h = refl
drop_past (b ∷ bs) zero h = absurd (omega arith)
drop_past (b ∷ bs) (suc i) h = drop_past bs i (omega arith)

drop_next : (bs : List Bool) (i : ℕ) → i < length bs → drop i bs ≡ get_or bs i false ∷ drop (i + 1) bs
drop_next bs i h = drop-cons bs i false h ∙ ap (λ n. get_or bs i false ∷ drop n bs) (sym (add-one i))

get_bits_short : {X : Type 0} (n : ℕ) (k : ℕ → List Bool → Option X) (bs : List Bool) → length bs < n → get_bits n k bs ≡ none
get_bits_short zero k bs h = absurd (omega arith)
get_bits_short (suc n) k [] h = refl
get_bits_short (suc n) k (false ∷ bs) h = get_bits_short n k bs (omega arith)
get_bits_short (suc n) k (true ∷ bs) h = get_bits_short n (λ c. k (2 ^ n + c)) bs (omega arith)

get_bits_at : {X : Type 0} (bs : List Bool) (n i : ℕ) (k : ℕ → List Bool → Option X) → i + n ≤ length bs
    → get_bits n k (drop i bs) ≡ k (number_at bs i n) (drop (i + n) bs)
get_bits_at bs zero i k h =
    let e : i ≡ i + 0 = omega arith in
    ap (λ z. k 0 (drop z bs)) e
get_bits_at {X} bs (suc n) i k h = ap (get_bits (suc n) k) (drop-cons bs i false (omega arith))
    ∙ go (λ k. get_bits_at bs n (suc i) k (omega arith)) (get_or bs i false)
  where
    go : ((k : ℕ → List Bool → Option X) → get_bits n k (drop (suc i) bs) ≡ k (number_at bs (suc i) n) (drop (suc i + n) bs))
        → (b : Bool) → get_bits (suc n) k (b ∷ drop (suc i) bs) ≡ k (cond b (2 ^ n) 0 + number_at bs (suc i) n) (drop (i + suc n) bs)
    go ih true =
        let e : suc i + n ≡ i + suc n = omega arith in
        ih (λ c. k (2 ^ n + c)) ∙ ap (λ z. k (2 ^ n + number_at bs (suc i) n) (drop z bs)) e
    go ih false =
        let e : suc i + n ≡ i + suc n = omega arith in
        let f : number_at bs (suc i) n ≡ 0 + number_at bs (suc i) n = omega arith in
        ih k ∙ ap₂ (λ y z. k y (drop z bs)) f e

module _ (bs : List Bool) where
  -- what reading leaves are the bits from a later position on
  module _ (t : Tree) (i : ℕ) (le : i ≤ length bs) (p : Value t × List Bool) (e : read t (drop i bs) ≡ some p) where
    lengths : length (code t p.0) + length p.1 ≡ length bs - i
    lengths = sym (length-append (code t p.0) p.1) ∙ sym (ap length (read_sound t (drop i bs) p e)) ∙ length-drop i bs

    rest_at : i ≤ length bs - length p.1
    rest_at = omega (arith, lengths)

    rest_bits : p.1 ≡ drop (length bs - length p.1) bs
    rest_bits =
        let l = lengths in
        let f : i + length (code t p.0) ≡ length bs - length p.1 = omega arith in
        sym (drop_at (code t p.0) p.1 (length (code t p.0)) refl) ∙ ap (drop (length (code t p.0))) (sym (read_sound t (drop i bs) p e))
        ∙ drop-drop (length (code t p.0)) i bs ∙ ap (λ z. drop z bs) f

  -- a walk goes forward and stays inside the bits
  pub see_stays : {X : Type 0} (t : Tree) (f : Value t → X) (i : ℕ) → i ≤ length bs → (x : X) (j : ℕ) → see bs t f i ≡ some (x, j) → (i ≤ j) × (j ≤ length bs)
  unfolding see
  see_stays t f i le x j = go (read t (drop i bs)) refl
    where
      go : (o : Read t) → read t (drop i bs) ≡ o → seen (length bs) t f o ≡ some (x, j) → (i ≤ j) × (j ≤ length bs)
      go none e h = absurd (none-ne-some (x, j) h)
      go (some p) e h =
          let g : length bs - length p.1 ≡ j = ap (λ z. z.1) (some-injective (f p.0, length bs - length p.1) (x, j) h) in
          let k = rest_at t i le p e in
          (omega arith, omega arith)

  -- what one function makes tells what another would
  pub see_as : {X Y : Type 0} (t : Tree) (f : Value t → X) (g : Value t → Y) (k : X → Y) → ((v : Value t) → g v ≡ k (f v)) → (i : ℕ)
      → see bs t g i ≡ elim (see bs t f i) [ none ↦ none | some p ↦ some (k p.0, p.1) ]
  unfolding see
  see_as t f g k e i = go (read t (drop i bs))
    where
      go : (o : Read t) → seen (length bs) t g o ≡ elim (seen (length bs) t f o) [ none ↦ none | some p ↦ some (k p.0, p.1) ]
      go none = refl
      go (some p) = ap (λ z. some (z, length bs - length p.1)) (e p.0)

  here : (i : ℕ) → i ≤ length bs → length bs - length (drop i bs) ≡ i
  here i le = omega (arith, length-drop i bs)

  module _ {X : Type 0} (m : Label) (i : ℕ) where
    pub see_nothing : (f : Value (nothing m) → X) → i ≤ length bs → see bs (nothing m) f i ≡ some (f tt, i)
    unfolding see read
    see_nothing f le = ap (λ z. some (f tt, z)) (here i le)

    pub see_letter : (c : ℕ) (f : Value (letter m c) → X) → i ≤ length bs → see bs (letter m c) f i ≡ some (f tt, i)
    unfolding see read
    see_letter c f le = ap (λ z. some (f tt, z)) (here i le)

  module _ {X : Type 0} (m : Label) (low high : ℕ) (f : Value (range m low high) → X) (i : ℕ) where
    pub see_short : length bs < i + 8 → see bs (range m low high) f i ≡ none
    unfolding see read
    see_short h = ap (seen (length bs) (range m low high) f) (get_bits_short 8 (λ c r. checked low high c (λ v s. some (v, s)) r (in_range low high c) refl) (drop i bs) (omega (arith, length-drop i bs)))

    abbrev look : ℕ → List Bool → Read (range m low high)
    look c r = checked low high c (λ v s. some (v, s)) r (in_range low high c) refl

    looked : i + 8 ≤ length bs → see bs (range m low high) f i ≡ seen (length bs) (range m low high) f (look (number_at bs i 8) (drop (i + 8) bs))
    unfolding see read
    looked h = ap (seen (length bs) (range m low high) f) (get_bits_at bs 8 i look h)

    pub see_range : i + 8 ≤ length bs → (q : in_range low high (number_at bs i 8) ≡ true)
        → see bs (range m low high) f i ≡ some (f (number_at bs i 8, q), i + 8)
    see_range h q = looked h ∙ go (in_range low high (number_at bs i 8)) refl
      where
        go : (b : Bool) (p : in_range low high (number_at bs i 8) ≡ b)
            → seen (length bs) (range m low high) f (checked low high (number_at bs i 8) (λ v s. some (v, s)) (drop (i + 8) bs) b p) ≡ some
            (f (number_at bs i 8, q), i + 8)
        go true p = ap₂ (λ y z. some (f (number_at bs i 8, y), z)) (Bool-set _ _ p q) (here (i + 8) h)
        go false p = absurd (not-both q p)

    pub see_outside : i + 8 ≤ length bs → in_range low high (number_at bs i 8) ≡ false → see bs (range m low high) f i ≡ none
    see_outside h q = looked h ∙ go (in_range low high (number_at bs i 8)) refl
      where
        go : (b : Bool) (p : in_range low high (number_at bs i 8) ≡ b)
            → seen (length bs) (range m low high) f (checked low high (number_at bs i 8) (λ v s. some (v, s)) (drop (i + 8) bs) b p) ≡ none
        go true p = absurd (not-both p q)
        go false p = refl

  -- what a pair and a round share: a first part from i on, then a second from where it stopped
  after_first : {X Y Z : Type 0} (op : X → Y → Z) (t u w : Tree) (pair : Value t → Value u → Value w) (f : Value w → Z) (g : Value t → X) (h : Value u → Y)
      → ((v : Value t) (x : Value u) → f (pair v x) ≡ op (g v) (h x)) → (i : ℕ) → i ≤ length bs
      → seen (length bs) w f (bind (read t (drop i bs)) (λ p. bind (read u p.1) (λ q. some (pair p.0 q.0, q.1)))) ≡ and_then op
      (see bs t g i) (see bs u h)
  unfolding see bind
  after_first op t u w pair f g h s i le = go (read t (drop i bs)) refl
    where
      last : (v : Value t) (o : Read u) → seen (length bs) w f (bind o (λ q. some (pair v q.0, q.1))) ≡ joined op (g v) (seen (length bs) u h o)
      last v none = refl
      last v (some q) = ap (λ z. some (z, length bs - length q.1)) (s v q.0)

      go : (o : Read t) → read t (drop i bs) ≡ o
          → seen (length bs) w f (bind o (λ p. bind (read u p.1) (λ q. some (pair p.0 q.0, q.1)))) ≡ and_then op (seen (length bs) t g o)
          (see bs u h)
      go none e = refl
      go (some p) e = last p.0 (read u p.1) ∙ ap (λ z. joined op (g p.0) (seen (length bs) u h (read u z))) (rest_bits t i le p e)

  pub see_seq : {X Y Z : Type 0} (op : X → Y → Z) (m : Label) (t u : Tree) (f : Value (seq m t u) → Z) (g : Value t → X) (h : Value u → Y)
      → ((v : Value t) (x : Value u) → f (v, x) ≡ op (g v) (h x)) → (i : ℕ) → i ≤ length bs → see bs (seq m t u) f i ≡ and_then op (see bs t g i) (see bs u h)
  unfolding see
  see_seq op m t u f g h s i le =
      ap (seen (length bs) (seq m t u) f) (read_seq m t u (drop i bs)) ∙ after_first op t u (seq m t u) (λ v x. (v, x)) f g h s i le

  -- the next bit, where a choice looks at it
  at_bit : {X : Type 0} (t : Tree) (f : Value t → X) (i : ℕ) (b : Bool) → i < length bs → get_or bs i false ≡ b
      → see bs t f i ≡ seen (length bs) t f (read t (b ∷ drop (i + 1) bs))
  unfolding see
  at_bit t f i b h z = ap (λ l. seen (length bs) t f (read t l)) (drop_next bs i h ∙ ap (λ n. n ∷ drop (i + 1) bs) z)

  -- one side: what f makes of the side's value
  one_side : {X : Type 0} (t w : Tree) (side : Value t → Value w) (f : Value w → X) (o : Read t)
      → seen (length bs) w f (bind o (λ p. some (side p.0, p.1))) ≡ seen (length bs) t (λ v. f (side v)) o
  unfolding bind
  one_side t w side f none = refl
  one_side t w side f (some p) = refl

  module _ {X : Type 0} (m : Label) (t u : Tree) (f : Value (alt m t u) → X) (i : ℕ) where
    pub see_alt_none : length bs ≤ i → see bs (alt m t u) f i ≡ none
    unfolding see read
    see_alt_none h = ap (λ z. seen (length bs) (alt m t u) f (read (alt m t u) z)) (drop_past bs i h)

    pub see_left : i < length bs → get_or bs i false ≡ false → see bs (alt m t u) f i ≡ see bs t (λ v. f (inl v)) (i + 1)
    unfolding see
    see_left h z =
        at_bit (alt m t u) f i false h z ∙ ap (seen (length bs) (alt m t u) f) (read_left m t u (drop (i + 1) bs))
        ∙ one_side t (alt m t u) inl f (read t (drop (i + 1) bs))

    pub see_right : i < length bs → get_or bs i false ≡ true → see bs (alt m t u) f i ≡ see bs u (λ v. f (inr v)) (i + 1)
    unfolding see
    see_right h z =
        at_bit (alt m t u) f i true h z ∙ ap (seen (length bs) (alt m t u) f) (read_right m t u (drop (i + 1) bs))
        ∙ one_side u (alt m t u) inr f (read u (drop (i + 1) bs))

  module _ {Z : Type 0} (m : Label) (again : Bool) (t : Tree) (f : Value (star m again t) → Z) (i : ℕ) where
    pub see_star_none : length bs ≤ i → see bs (star m again t) f i ≡ none
    unfolding see read
    see_star_none h = ap (λ z. seen (length bs) (star m again t) f (read (star m again t) z)) (drop_past bs i h)

    pub see_stop : i < length bs → get_or bs i false ≡ not again → see bs (star m again t) f i ≡ some (f [], i + 1)
    see_stop h z =
        at_bit (star m again t) f i (not again) h z ∙ ap (seen (length bs) (star m again t) f) (read_stop m again t (drop (i + 1) bs))
        ∙ ap (λ n. some (f [], n)) (here (i + 1) (omega arith))

    pub see_round : {X Y : Type 0} (op : X → Y → Z) (g : Value t → X) (h : Value (star m again t) → Y)
        → ((v : Value t) (vs : Value (star m again t)) → f (v ∷ vs) ≡ op (g v) (h vs))
        → i < length bs → get_or bs i false ≡ again → see bs (star m again t) f i ≡ and_then op (see bs t g (i + 1)) (see bs (star m again t) h)
    see_round op g h s lt z =
        at_bit (star m again t) f i again lt z ∙ ap (seen (length bs) (star m again t) f) (read-round m again t (drop (i + 1) bs))
        ∙ after_first op t (star m again t) (star m again t) (λ v vs. v ∷ vs) f g h s (i + 1) (omega arith)

-- a walk from the start that reaches the end is what the whole code's value makes
pub see_whole : {X : Type 0} (t : Tree) (f : Value t → X) (v : Value t) → see (code t v) t f 0 ≡ some (f v, length (code t v))
unfolding see
see_whole t f v =
    let e : length (code t v) - 0 ≡ length (code t v) = omega arith in
    ap (λ l. seen (length (code t v)) t f (read t l)) (sym (append-nil (code t v))) ∙ ap (seen (length (code t v)) t f) (read_code t v [])
    ∙ ap (λ n. some (f v, n)) e

no_length : {A : Type 0} (l : List A) → length l ≡ 0 → l ≡ []
no_length [] e = refl
no_length (a ∷ l) e = absurd (omega arith)

-- and conversely: bits that a walk from the start reads to their end are a whole code, and what it makes is f of its value
pub see_whole_sound : {X : Type 0} (t : Tree) (f : Value t → X) (bs : List Bool) (x : X) → see bs t f 0 ≡ some (x, length bs)
    → (v : Value t) × (code t v ≡ bs) × (f v ≡ x)
unfolding see
see_whole_sound {X} t f bs x = go (read t bs) refl
  where
    go : (o : Read t) → read t bs ≡ o → seen (length bs) t f o ≡ some (x, length bs) → (v : Value t) × (code t v ≡ bs) × (f v ≡ x)
    go none e h = absurd (none-ne-some (x, length bs) h)
    go (some p) e h =
        let q : ◌≡◌ {A = X × ℕ} (f p.0, length bs - length p.1) (x, length bs) = some-injective (f p.0, length bs - length p.1)
        (x, length bs) h in
        let g : length bs - length p.1 ≡ length bs = ap (λ z. z.1) q in
        let s : bs ≡ code t p.0 ++ p.1 = read_sound t bs p e in
        let r : p.1 ≡ [] = no_length p.1 (omega (arith, simp length-append at (ap length s))) in
        (p.0, sym (s ∙ ap (λ z. code t p.0 ++ z) r ∙ append-nil (code t p.0)), ap (λ z. z.0) q)
