-- LAWS of decoding: a value's code with anything behind it decodes to the value and what was behind it, and nothing else decodes.
use Rattle.std.proofs.Common.{◌∙◌, inl, inr, ⊎_elim, le_refl, length-append}
use Rattle.std.specs.Prelude.{◌≡◌, cond, not, ◌↔◌, ◌⊎◌, length}
use Rattle.std.proofs.Math.Path.{ap, refl, sym}
use Rattle.std.proofs.Math.Bool.{Bool, Bool-set, false, true}
use Rattle.std.proofs.Math.Option.{Option, none-ne-some, some-injective, bind, none, some}
use mathlib.Core.List.{◌++◌, ◌∷◌, List, [], append_assoc, head-eq_of_cons-eq, tail-eq_of_cons-eq}
use Prim.Native.Nat.{◌+◌, ◌-◌, ◌<◌, ◌^◌, ◌≤◌, suc, zero, ℕ}
use native.Mathlib.Omega.{arith}
use Rattle.std.proofs.Math.Dec.{leb}
use Rattle.syntax.specs.Letter.{is_letter, in_range}
use Rattle.syntax.specs.Tree.{Label, Tree, nothing, letter, range, seq, alt, star}
use Rattle.bits.specs.Bits.{bits_of}
use Rattle.bits.specs.Numbers.{bits_of_compare}
use Rattle.syntax.specs.LetterLaws.{letter_small}
use Rattle.semantics.specs.Value.{Value}
use Rattle.semantics.specs.Code.{code_rounds, code}
use Rattle.semantics.specs.Decode.{get_bits, checked, by_bit, decode_rounds, decode, Read, read}
use Rattle.semantics.proofs.Basics.{and_fst, not-both, leb_le, le_leb, nleb_lt, lt_nleb, not_self, glue}

in_range_small : (low high c : ℕ) → in_range low high c ≡ true → c < 256
unfolding in_range
in_range_small low high c p = letter_small c (and_fst (is_letter c) _ p)

module _ {X : Type 0} where
  get_bits_bits : (n c : ℕ) → c < 2 ^ n → (k : ℕ → List Bool → Option X) (r : List Bool) → get_bits n k (bits_of n c ++ r) ≡ k c r
  unfolding bits_of
  get_bits_bits zero c h k r = ap (λ x. k x r) (omega arith)
  get_bits_bits (suc n) c h k r = ap (λ bs. get_bits (suc n) k (bs ++ r)) (bits_of_compare n c h) ∙ go (get_bits_bits n) (leb (2 ^ n) c) refl
    where
      go : ((c : ℕ) → c < 2 ^ n → (k : ℕ → List Bool → Option X) (r : List Bool) → get_bits n k (bits_of n c ++ r) ≡ k c r)
          → (b : Bool) → leb (2 ^ n) c ≡ b → get_bits (suc n) k (b ∷ bits_of n (cond b (c - 2 ^ n) c) ++ r) ≡ k c r
      go ih true e =
          let q : 2 ^ n ≤ c = leb_le (2 ^ n) c e in
          ih (c - 2 ^ n) (omega arith) (λ x. k (2 ^ n + x)) r ∙ ap (λ x. k x r) (omega arith)
      go ih false e = ih c (nleb_lt (2 ^ n) c e) k r

  checked_yes : (low high c : ℕ) (p : in_range low high c ≡ true) (k : (c : ℕ) × (in_range low high c ≡ true) → List Bool → Option X) (r : List Bool)
      (b : Bool) (q : in_range low high c ≡ b)
      → checked low high c k r b q ≡ k (c, p) r
  checked_yes low high c p k r true q = ap (λ z. k (c, z) r) (Bool-set _ _ q p)
  checked_yes low high c p k r false q = absurd (not-both p q)

  by_bit_this : (o : Bool) (x y : List Bool → Option X) (bs : List Bool) → by_bit o x y (o ∷ bs) ≡ x bs
  by_bit_this false x y bs = refl
  by_bit_this true x y bs = refl

  by_bit_that : (o : Bool) (x y : List Bool → Option X) (bs : List Bool) → by_bit o x y (not o ∷ bs) ≡ y bs
  by_bit_that false x y bs = refl
  by_bit_that true x y bs = refl

  decode_rounds-code : {A : Type 0} (again : Bool) (c : A → List Bool) (d : (A → List Bool → Option X) → List Bool → Option X)
      → ((v : A) (k : A → List Bool → Option X) (r : List Bool) → d k (c v ++ r) ≡ k v r)
      → (n : ℕ) (vs : List A) (k : List A → List Bool → Option X) (r : List Bool) → length (code_rounds again c vs ++ r) ≤ n
      → decode_rounds again d n k (code_rounds again c vs ++ r) ≡ k vs r
  decode_rounds-code again c d one zero [] k r le = absurd (omega arith)
  decode_rounds-code again c d one zero (v ∷ vs) k r le = absurd (omega arith)
  decode_rounds-code again c d one (suc n) [] k r le = by_bit_that again (d (λ v r. decode_rounds again d n (λ vs. k (v ∷ vs)) r)) (k []) r
  decode_rounds-code again c d one (suc n) (v ∷ vs) k r le =
      by_bit_this again (d (λ v r. decode_rounds again d n (λ vs. k (v ∷ vs)) r)) (k []) ((c v ++ code_rounds again c vs) ++ r)
      ∙ rw append_assoc (one v (λ x y. decode_rounds again d n (λ xs. k (x ∷ xs)) y) (code_rounds again c vs ++ r)
      ∙ decode_rounds-code again c d one n vs (λ xs. k (v ∷ xs)) r (simp length-append (omega (arith, simp length-append at le))))

  -- a value's code with r behind it decodes to the value and r
  pub decode-code : (t : Tree) (v : Value t) (k : Value t → List Bool → Option X) (r : List Bool) → decode t k (code t v ++ r) ≡ k v r
  decode-code (nothing m) v k r = refl
  decode-code (letter m c) v k r = refl
  decode-code (range m low high) v k r =
      get_bits_bits 8 v.0 (in_range_small low high v.0 v.1) (λ c x. checked low high c k x (in_range low high c) refl) r
      ∙ checked_yes low high v.0 v.1 k r (in_range low high v.0) refl
  decode-code (seq m t u) v k r =
      rw append_assoc (decode-code t v.0 (λ x. decode u (λ y. k (x, y))) (code u v.1 ++ r) ∙ decode-code u v.1 (λ y. k (v.0, y)) r)
  decode-code (alt m t u) (inl v) k r = decode-code t v (λ x. k (inl x)) r
  decode-code (alt m t u) (inr v) k r = decode-code u v (λ x. k (inr x)) r
  decode-code (star m again t) vs k r = decode_rounds-code again (code t) (decode t) (decode-code t)
      (length (code_rounds again (code t) vs ++ r)) vs k r (le_refl _)

-- two codes of one tree, with anything behind them
pub code_split : (t : Tree) (v x : Value t) (r s : List Bool) → code t v ++ r ≡ code t x ++ s → (v ≡ x) × (r ≡ s)
code_split t v x r s e = (ap (λ z. z.0) both, ap (λ z. z.1) both)
  where
    k : Value t → List Bool → Option (Value t × List Bool)
    k y z = some (y, z)

    both : ◌≡◌ {A = Value t × List Bool} (v, r) (x, s)
    both = some-injective (v, r) (x, s) (sym (decode-code t v k r) ∙ ap (decode t k) e ∙ decode-code t x k s)

-- 01: a code "fixes that reading"
pub code_injective : (t : Tree) (v x : Value t) → code t v ≡ code t x → v ≡ x
code_injective t v x e = (code_split t v x [] [] (ap (λ l. l ++ []) e)).0

-- and conversely: whatever decodes begins with the code of what it decodes to
module _ {X : Type 0} where
  abbrev Got : {A : Type 0} → (A → List Bool) → (A → List Bool → Option X) → List Bool → X → Type 0
  Got {A} c k bs x = (v : A) × (r : List Bool) × (bs ≡ c v ++ r) × (k v r ≡ some x)

  get_bits_sound : (n : ℕ) (k : ℕ → List Bool → Option X) (bs : List Bool) (x : X) → get_bits n k bs ≡ some x
      → (c : ℕ) × (r : List Bool) × (c < 2 ^ n) × (bs ≡ bits_of n c ++ r) × (k c r ≡ some x)
  unfolding bits_of
  get_bits_sound zero k bs x h = (0, bs, omega arith, refl, h)
  get_bits_sound (suc n) k [] x h = absurd (none-ne-some x h)
  get_bits_sound (suc n) k (false ∷ bs) x h =
      let (c, r, l, e, g) = get_bits_sound n k bs x h in
      let f : bits_of (suc n) c ≡ false ∷ bits_of n c = bits_of_compare n c (omega arith) ∙ rw (lt_nleb (2 ^ n) c l) in
      (c, r, omega arith, ap (λ z. false ∷ z) e ∙ sym (ap (λ z. z ++ r) f), g)
  get_bits_sound (suc n) k (true ∷ bs) x h =
      let (c, r, l, e, g) = get_bits_sound n (λ y. k (2 ^ n + y)) bs x h in
      let q : 2 ^ n + c - 2 ^ n ≡ c = omega arith in
      let f : bits_of (suc n) (2 ^ n + c) ≡ true ∷ bits_of n c = bits_of_compare n (2 ^ n + c) (omega arith)
      ∙ rw (le_leb (2 ^ n) (2 ^ n + c) (omega arith), q) in
      (2 ^ n + c, r, omega arith, ap (λ z. true ∷ z) e ∙ sym (ap (λ z. z ++ r) f), g)

  checked_sound : (low high c : ℕ) (k : (c : ℕ) × (in_range low high c ≡ true) → List Bool → Option X) (r : List Bool) (x : X) (b : Bool)
      (q : in_range low high c ≡ b)
      → checked low high c k r b q ≡ some x → (p : in_range low high c ≡ true) × (k (c, p) r ≡ some x)
  checked_sound low high c k r x true q h = (q, h)
  checked_sound low high c k r x false q h = absurd (none-ne-some x h)

  by_bit_sound : (o : Bool) (f g : List Bool → Option X) (bs : List Bool) (x : X) → by_bit o f g bs ≡ some x
      → ((r : List Bool) × (bs ≡ o ∷ r) × (f r ≡ some x)) ⊎ ((r : List Bool) × (bs ≡ not o ∷ r) × (g r ≡ some x))
  by_bit_sound o f g [] x h = absurd (none-ne-some x h)
  by_bit_sound false f g (false ∷ r) x h = inl (r, refl, h)
  by_bit_sound false f g (true ∷ r) x h = inr (r, refl, h)
  by_bit_sound true f g (true ∷ r) x h = inl (r, refl, h)
  by_bit_sound true f g (false ∷ r) x h = inr (r, refl, h)

  decode_rounds_sound : {A : Type 0} (again : Bool) (c : A → List Bool) (d : (A → List Bool → Option X) → List Bool → Option X)
      → ((k : A → List Bool → Option X) (bs : List Bool) (x : X) → d k bs ≡ some x → Got c k bs x)
      → (n : ℕ) (k : List A → List Bool → Option X) (bs : List Bool) (x : X) → decode_rounds again d n k bs ≡ some x → Got (code_rounds again c) k bs x
  decode_rounds_sound again c d one zero k bs x h = absurd (none-ne-some x h)
  decode_rounds_sound {A} again c d one (suc n) k bs x h = ⊎_elim
      (λ p.
      let (v, r, e, g) = one (λ v r. decode_rounds again d n (λ vs. k (v ∷ vs)) r) p.0 x p.2 in
      let (vs, s, f, l) = decode_rounds_sound again c d one n (λ vs. k (v ∷ vs)) r x g in
      (v ∷ vs, s, p.1 ∙ ap (λ z. again ∷ z) (glue (c v) (code_rounds again c vs) s e f), l))
      (λ p. ([], p.0, p.1, p.2))
      (by_bit_sound again (d (λ v r. decode_rounds again d n (λ vs. k (v ∷ vs)) r)) (k []) bs x h)

  pub decode_sound : (t : Tree) (k : Value t → List Bool → Option X) (bs : List Bool) (x : X) → decode t k bs ≡ some x → Got (code t) k bs x
  decode_sound (nothing m) k bs x h = (tt, bs, refl, h)
  decode_sound (letter m c) k bs x h = (tt, bs, refl, h)
  decode_sound (range m low high) k bs x h =
      let (c, r, l, q, g) = get_bits_sound 8 (λ c r. checked low high c k r (in_range low high c) refl) bs x h in
      let (p, f) = checked_sound low high c k r x (in_range low high c) refl g in
      ((c, p), r, q, f)
  decode_sound (seq m t u) k bs x h =
      let (v, r, e, g) = decode_sound t (λ v. decode u (λ y. k (v, y))) bs x h in
      let (y, s, f, l) = decode_sound u (λ y. k (v, y)) r x g in
      ((v, y), s, glue (code t v) (code u y) s e f, l)
  decode_sound (alt m t u) k [] x h = absurd (none-ne-some x h)
  decode_sound (alt m t u) k (false ∷ bs) x h =
      let (v, r, e, g) = decode_sound t (λ v. k (inl v)) bs x h in
      (inl v, r, ap (λ z. false ∷ z) e, g)
  decode_sound (alt m t u) k (true ∷ bs) x h =
      let (v, r, e, g) = decode_sound u (λ v. k (inr v)) bs x h in
      (inr v, r, ap (λ z. true ∷ z) e, g)
  decode_sound (star m again t) k bs x h = decode_rounds_sound again (code t) (decode t) (decode_sound t) (length bs) k bs x h

-- ── `read`, the value and the bits behind it: its equations, with no count of rounds in them ──
pub read_code : (t : Tree) (v : Value t) (r : List Bool) → read t (code t v ++ r) ≡ some (v, r)
unfolding read
read_code t v r = decode-code t v (λ v r. some (v, r)) r

pub read_sound : (t : Tree) (bs : List Bool) (p : Value t × List Bool) → read t bs ≡ some p → bs ≡ code t p.0 ++ p.1
unfolding read
read_sound t bs p h =
    let (v, r, e, g) = decode_sound t (λ v r. some (v, r)) bs p h in
    e ∙ ap (λ q. code t q.0 ++ q.1) (some-injective (v, r) p g)

-- both ways: bits decode to v and r exactly if they are v's code with r behind it
pub read_iff : (t : Tree) (bs : List Bool) (v : Value t) (r : List Bool) → (read t bs ≡ some (v, r)) ↔ (bs ≡ code t v ++ r)
read_iff t bs v r = (read_sound t bs (v, r), λ e. ap (read t) e ∙ read_code t v r)

pub opt_ext : {A : Type 0} (o q : Option A) → ((a : A) → o ≡ some a → q ≡ some a) → ((a : A) → q ≡ some a → o ≡ some a) → o ≡ q
opt_ext none none f g = refl
opt_ext none (some a) f g = g a refl
opt_ext (some a) q f g = sym (f a refl)

-- decoding with a continuation is `read`, then the continuation
pub decode-read : {X : Type 0} (t : Tree) (k : Value t → List Bool → Option X) (bs : List Bool) → decode t k bs ≡ bind (read t bs) (λ p. k p.0 p.1)
unfolding bind
decode-read {X} t k bs = opt_ext (decode t k bs) (bind (read t bs) (λ p. k p.0 p.1)) to (λ x h. from (read t bs) refl x h)
  where
    to : (x : X) → decode t k bs ≡ some x → bind (read t bs) (λ p. k p.0 p.1) ≡ some x
    to x h =
        let (v, r, e, g) = decode_sound t k bs x h in
        ap (λ l. bind (read t l) (λ p. k p.0 p.1)) e ∙ ap (λ o. bind o (λ p. k p.0 p.1)) (read_code t v r) ∙ g

    from : (o : Read t) → read t bs ≡ o → (x : X) → bind o (λ p. k p.0 p.1) ≡ some x → decode t k bs ≡ some x
    from none e x h = absurd (none-ne-some x h)
    from (some p) e x h = ap (decode t k) (read_sound t bs p e) ∙ decode-code t p.0 k p.1 ∙ h

pub read_seq : (m : Label) (t u : Tree) (bs : List Bool) → read (seq m t u) bs ≡ bind (read t bs) (λ p. bind (read u p.1) (λ q. some ((p.0, q.0), q.1)))
unfolding read bind
read_seq m t u bs = decode-read t (λ v. decode u (λ x r. some ((v, x), r))) bs
    ∙ ap (bind (read t bs)) (λ i p. decode-read u (λ x r. some ((p.0, x), r)) p.1 i)

pub read_left : (m : Label) (t u : Tree) (bs : List Bool) → read (alt m t u) (false ∷ bs) ≡ bind (read t bs) (λ p. some (inl p.0, p.1))
unfolding read bind
read_left m t u bs = decode-read t (λ v r. some (inl v, r)) bs

pub read_right : (m : Label) (t u : Tree) (bs : List Bool) → read (alt m t u) (true ∷ bs) ≡ bind (read u bs) (λ p. some (inr p.0, p.1))
unfolding read bind
read_right m t u bs = decode-read u (λ v r. some (inr v, r)) bs

pub read_stop : (m : Label) (again : Bool) (t : Tree) (bs : List Bool) → read (star m again t) (not again ∷ bs) ≡ some ([], bs)
read_stop m again t bs = read_code (star m again t) [] bs

pub read-round : (m : Label) (again : Bool) (t : Tree) (bs : List Bool)
    → read (star m again t) (again ∷ bs) ≡ bind (read t bs) (λ p. bind (read (star m again t) p.1) (λ q. some (p.0 ∷ q.0, q.1)))
unfolding bind
read-round m again t bs = opt_ext (read (star m again t) (again ∷ bs)) (rhs bs)
    (λ a h. to a.0 a.1 (read_sound (star m again t) (again ∷ bs) a h)) (λ a h. from a h)
  where
    rhs : List Bool → Read (star m again t)
    rhs l = bind (read t l) (λ p. bind (read (star m again t) p.1) (λ q. some (p.0 ∷ q.0, q.1)))

    to : (vs : List (Value t)) (r : List Bool) → again ∷ bs ≡ code_rounds again (code t) vs ++ r → rhs bs ≡ some (vs, r)
    to [] r e = absurd (not_self again (head-eq_of_cons-eq e))
    to (v ∷ vs) r e = ap rhs (tail-eq_of_cons-eq e ∙ append_assoc (code t v) (code_rounds again (code t) vs) r)
        ∙ ap (λ o. bind o (λ p. bind (read (star m again t) p.1) (λ q. some (p.0 ∷ q.0, q.1)))) (read_code t v (code_rounds again (code t) vs ++ r))
        ∙ ap (λ o. bind o (λ q. some (v ∷ q.0, q.1))) (read_code (star m again t) vs r)

    last : (v : Value t) (l : List Bool) → bs ≡ code t v ++ l → (o : Read (star m again t)) → read (star m again t) l ≡ o
        → (a : Value (star m again t) × List Bool) → bind o (λ q. some (v ∷ q.0, q.1)) ≡ some a → read (star m again t) (again ∷ bs) ≡ some a
    last v l e none f a h = absurd (none-ne-some a h)
    last v l e (some q) f a h = ap (λ z. read (star m again t) (again ∷ z))
        (e ∙ ap (λ z. code t v ++ z) (read_sound (star m again t) l q f) ∙ sym (append_assoc (code t v) (code_rounds again (code t) q.0) q.1))
        ∙ read_code (star m again t) (v ∷ q.0) q.1 ∙ h

    first : (o : Read t) → read t bs ≡ o → (a : Value (star m again t) × List Bool)
        → bind o (λ p. bind (read (star m again t) p.1) (λ q. some (p.0 ∷ q.0, q.1))) ≡ some a → read (star m again t) (again ∷ bs) ≡ some a
    first none e a h = absurd (none-ne-some a h)
    first (some p) e a h = last p.0 p.1 (read_sound t bs p e) (read (star m again t) p.1) refl a h

    from : (a : Value (star m again t) × List Bool) → rhs bs ≡ some a → read (star m again t) (again ∷ bs) ≡ some a
    from a h = first (read t bs) refl a h
