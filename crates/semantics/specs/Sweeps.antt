-- HOW IT IS COMPUTED, 2: the two sweeps of 001, section 5. The first says whether letters can be read; the second writes the bits of the greedy value.
-- Neither looks at a node's parent: what may follow a node is handed down as a function of the flag and of the letters left.
use Rattle.std.specs.Prelude.{◌&&◌, ◌||◌, Bool, cond, false, not, true, ◌++◌, ◌∷◌, List, [], suc, zero, ℕ, eqb, length}
use Rattle.syntax.specs.Letter.{in_range}
use Rattle.syntax.specs.Tree.{Tree, nothing, letter, range, seq, alt, star}
use Rattle.bits.specs.Bits.{bits_of}

-- what may follow: by the flag ("Flag 1 means that the present round has taken a letter") and the letters left
abbrev pub After : Type 0
After = (flag : Bool) → (letters : List ℕ) → Bool

-- behind a round of a star: only if the round has taken a letter, and the star goes on with flag 1
abbrev pub after_round : After → After
after_round k b w = b && k true w

-- a leaf that takes a letter
abbrev pub on_letter : (ℕ → Bool) → After → After
on_letter p k b [] = false
on_letter p k b (c ∷ w) = p c && k true w

-- another round or the stop. Every round takes a letter, so that as many as there are letters are enough; one more is tried,
-- so that it is the flag, and never the count, that keeps an empty round out.
abbrev pub can_rounds : (After → After) → (most : ℕ) → After → After
can_rounds c zero k b w = k b w
can_rounds c (suc n) k b w = c (after_round (can_rounds c n k)) false w || k b w

-- the first sweep: whether the node reads a front of the letters, and k allows the rest
abbrev pub can : Tree → After → After
can (nothing m) k b w = k b w
can (letter m c) k b w = on_letter (eqb c) k b w
can (range m low high) k b w = on_letter (in_range low high) k b w
can (seq m t u) k b w = can t (can u k) b w
can (alt m t u) k b w = can t k b w || can u k b w
can (star m again t) k b w = can_rounds (can t) (suc (length w)) k b w

-- the bits of what follows
abbrev pub BitsAfter : Type 0
BitsAfter = (flag : Bool) → (letters : List ℕ) → List Bool

abbrev pub emit : (ℕ → List Bool) → BitsAfter → BitsAfter
emit e r b [] = []
emit e r b (c ∷ w) = e c ++ r true w

-- another round or not, where `more` says that one can be read and `stop` that the star can end here.
-- Where 0 means another round (`K`): wherever one can be read. Where 1 does (`Z`): only if the star cannot stop. 02: "take another round only
-- where they must"; 001, section 6: it "simply tries to return [] when possible, instead of trying to make an extra iteration".
abbrev pub another : (again more stop : Bool) → Bool
another false more stop = more
another true more stop = not stop

abbrev pub write_rounds : (again : Bool) → (After → After) → (After → BitsAfter → BitsAfter) → (most : ℕ) → After → BitsAfter → BitsAfter
write_rounds again c e zero k r b w = not again ∷ r b w
write_rounds again c e (suc n) k r b w =
    cond (another again (c (after_round (can_rounds c n k)) false w) (k b w))
    (again ∷ e (after_round (can_rounds c n k)) (λ g x. write_rounds again c e n k r true x) false w) (not again ∷ r b w)

-- the second sweep: the bits of the node's value, then those that r gives for what follows
abbrev pub write : Tree → After → BitsAfter → BitsAfter
write (nothing m) k r b w = r b w
write (letter m c) k r b w = emit (λ x. []) r b w
write (range m low high) k r b w = emit (bits_of 8) r b w
write (seq m t u) k r b w = write t (can u k) (write u k r) b w
write (alt m t u) k r b w = cond (can t k b w) (false ∷ write t k r b w) (true ∷ write u k r b w)
write (star m again t) k r b w = write_rounds again (can t) (write t) (suc (length w)) k r b w

-- 01: "The end accepts with flag 1." Nothing may be left there.
abbrev pub at_end : After
at_end b [] = b
at_end b (c ∷ w) = false

-- 01: "Reading starts at the root with flag 1."
unfoldable pub readable : Tree → (tape : List ℕ) → Bool
readable t w = can t at_end true w

unfoldable pub greedy : Tree → (tape : List ℕ) → List Bool
greedy t w = write t at_end (λ b x. []) true w
