-- Whether some number below n passes a test, and the union of the words that are chosen.
use Rattle.std.specs.Prelude.{◌≡◌, refl, Bool, true, false, ◌&&◌, ◌||◌, not, ℕ, zero, suc, ◌*◌, ◌^◌, ◌≤◌, ◌<◌, eqb}
use Rattle.std.proofs.Common.{sym, ap, ap₂, ◌∙◌, mul-one, mul-zero, arith, eqb-true, eq-eqb, ne_eqb, pow_pos}
use Rattle.std.proofs.Math.Bool.{and-true, and-false, or-false}
use Rattle.std.proofs.Math.Decide.{dec_lt}
use Rattle.std.proofs.lemmas.Bool.{eqb-false}
use Rattle.std.specs.Int.Bits.{bit_or}
use Rattle.std.proofs.lemmas.Nat.{or_lt}
use Rattle.binary.specs.Bits.{bit, test_bit}
use Rattle.binary.specs.Numbers.{test_small}
use Rattle.binary.specs.Words.{test_or}

-- ---- whether some number below n passes a test
abbrev pub any_to : ℕ → (ℕ → Bool) → Bool
any_to zero f = false
any_to (suc n) f = f n || any_to n f

pub any_same : (n : ℕ) (f g : ℕ → Bool) → ((x : ℕ) → x < n → f x ≡ g x) → any_to n f ≡ any_to n g
any_same zero f g h = refl
any_same (suc n) f g h = ap₂ (λ x y. x || y) (h n (omega arith)) (any_same n f g (λ x l. h x (omega arith)))

pub any_none : (n l : ℕ) (g : ℕ → Bool) → n ≤ l → any_to n (λ x. g x && eqb x l) ≡ false
any_none zero l g h = refl
any_none (suc n) l g h = rw (ne_eqb n l (λ e. omega arith), and-false (g n)) (any_none n l g (omega arith))

pub any_one : (n l : ℕ) (g : ℕ → Bool) → l < n → any_to n (λ x. g x && eqb x l) ≡ g l
any_one zero l g h = absurd (omega arith)
any_one (suc n) l g h = go (any_one n l g) (eqb n l) refl
  where
    go : (l < n → any_to n (λ x. g x && eqb x l) ≡ g l) → (b : Bool) → eqb n l ≡ b → ((g n && b) || any_to n (λ x. g x && eqb x l)) ≡ g l
    go ih true e =
        let q : n ≡ l = eqb-true n l e in
        rw (any_none n l g (omega arith)) (or-false (g n && true) ∙ and-true (g n) ∙ ap g q)
    go ih false e = rw (and-false (g n)) (ih (omega (arith, eqb-false n l e)))

pull_or : (a b c : Bool) → (a || (b || c)) ≡ (b || (a || c))
pull_or true true c = refl
pull_or true false c = refl
pull_or false true c = refl
pull_or false false c = refl

pub any_pull : (n x : ℕ) (k : ℕ → Bool) → x < n → any_to n k ≡ (k x || any_to n (λ y. not (eqb x y) && k y))
any_pull zero x k h = absurd (omega arith)
any_pull (suc n) x k h = go (any_pull n x k) (dec_lt x n)
  where
    go : (x < n → any_to n k ≡ (k x || any_to n (λ y. not (eqb x y) && k y))) → Dec (x < n)
        → (k n || any_to n k) ≡ (k x || ((not (eqb x n) && k n) || any_to n (λ y. not (eqb x y) && k y)))
    go ih (yes l) = rw (ne_eqb x n (λ q. omega arith), ih l) (pull_or (k n) (k x) (any_to n (λ y. not (eqb x y) && k y)))
    go ih (no l) =
        let q : x ≡ n = omega arith in
        let b : eqb x n ≡ true = eq-eqb x n q in
        rw (b) (ap₂ (λ y z. y || z) (ap k (sym q))
        (any_same n k (λ y. not (eqb x y) && k y) (λ y m. sym (ap (λ z. not z && k y) (ne_eqb x y (λ v. omega arith))))))

-- ---- unions
-- a word, where it is chosen
abbrev pub pick : Bool → ℕ → ℕ
pick true x = x
pick false x = 0

-- the union of the words m x of the x below n that g chooses
abbrev pub union : (n : ℕ) → (g : ℕ → Bool) → (m : ℕ → ℕ) → ℕ
union zero g m = 0
union (suc n) g m = bit_or (pick (g n) (m n)) (union n g m)

pub pick-bit : (v : Bool) (x l : ℕ) → test_bit (pick v x) l ≡ (v && test_bit x l)
pick-bit true x l = refl
pick-bit false x l = test_small 0 l (pow_pos l)

pub union-bit : (n : ℕ) (g : ℕ → Bool) (m : ℕ → ℕ) (l : ℕ) → test_bit (union n g m) l ≡ any_to n (λ x. g x && test_bit (m x) l)
union-bit zero g m l = test_small 0 l (pow_pos l)
union-bit (suc n) g m l = test_or (pick (g n) (m n)) (union n g m) l ∙ ap₂ (λ x y. x || y) (pick-bit (g n) (m n) l) (union-bit n g m l)

pub pick_lt : (k : ℕ) (v : Bool) (x : ℕ) → x < 2 ^ k → pick v x < 2 ^ k
pick_lt k true x h = h
pick_lt k false x h = pow_pos k

pub union_lt : (k n : ℕ) (g : ℕ → Bool) (m : ℕ → ℕ) → ((x : ℕ) → x < n → m x < 2 ^ k) → union n g m < 2 ^ k
union_lt k zero g m h = pow_pos k
union_lt k (suc n) g m h = or_lt k (pick (g n) (m n)) (union n g m) (pick_lt k (g n) (m n) (h n (omega arith))) (union_lt k n g m (λ x l. h x (omega arith)))

pub union_same : (n : ℕ) (g h : ℕ → Bool) (m k : ℕ → ℕ) → ((x : ℕ) → x < n → g x ≡ h x) → ((x : ℕ) → x < n → m x ≡ k x) → union n g m ≡ union n h k
union_same zero g h m k e f = refl
union_same (suc n) g h m k e f =
    ap₂ bit_or (ap₂ pick (e n (omega arith)) (f n (omega arith))) (union_same n g h m k (λ x l. e x (omega arith)) (λ x l. f x (omega arith)))

-- a word times 1 or 0 is the word where it is chosen
pub times-pick : (v : Bool) (m : ℕ) → m * bit v ≡ pick v m
times-pick true m = mul-one m
times-pick false m = mul-zero m

pub times_small : (w m e : ℕ) → e ≤ 1 → m < 2 ^ w → m * e < 2 ^ w
times_small w m zero h k = rw (mul-zero m) (pow_pos w)
times_small w m (suc zero) h k = rw (mul-one m) k
times_small w m (suc (suc e)) h k = absurd (omega arith)
