-- 01, "Tapes to try": the patterns P1 to P5, and that of "A whole listing", as texts; patterns with kind `Z` of 02, Job 2;
-- and one with letters of the hot side, 02, Job 3. Definitions only.
use Rattle.std.specs.Prelude.{List, [], ◌∷◌, ◌++◌, ℕ, ◌+◌}

-- 01: "One line a node, fields parted by one tab (byte 9), each line ended by byte 10." Every field of these patterns is one byte.
abbrev pub line : (fields : List ℕ) → List ℕ
line [] = 10 ∷ []
line (f ∷ []) = f ∷ 10 ∷ []
line (f ∷ g ∷ fs) = f ∷ 9 ∷ line (g ∷ fs)

abbrev pub lines : List (List ℕ) → List ℕ
lines [] = []
lines (fs ∷ more) = line fs ++ lines more

-- ── bytes by the names that 01 writes them by ──
-- 01: "`E` nothing; `L` one letter; `R` two letters"; "`S` two places", "`A` two places", "`K` one place"
abbrev pub E : ℕ
E = 69

abbrev pub L : ℕ
L = 76

abbrev pub R : ℕ
R = 82

abbrev pub S : ℕ
S = 83

abbrev pub A : ℕ
A = 65

abbrev pub K : ℕ
K = 75

-- 02, Job 2: "Add kind `Z`, one part, which writes 0 to stop and 1 before a round."
abbrev pub Z : ℕ
Z = 90

-- 01: "Account is `-` or a digit 1 to 9."
abbrev pub dash : ℕ
dash = 45

-- the digit of a number below 10: a place, an account, or a letter of the tape
abbrev pub d : ℕ → ℕ
d n = 48 + n

abbrev pub a : ℕ
a = 97

abbrev pub b : ℕ
b = 98

abbrev pub W : ℕ
W = 87

-- ── the patterns ──

-- "P1: (a|e)*"
unfoldable pub P1 : List ℕ
P1 =
    lines
    ((d 0 ∷ L ∷ dash ∷ a ∷ [])
    ∷ (d 1 ∷ E ∷ dash ∷ [])
    ∷ (d 2 ∷ A ∷ dash ∷ d 0 ∷ d 1 ∷ [])
    ∷ (d 3 ∷ K ∷ dash ∷ d 2 ∷ [])
    ∷ [])

-- "P2: (e|a)*"
unfoldable pub P2 : List ℕ
P2 =
    lines
    ((d 0 ∷ E ∷ dash ∷ [])
    ∷ (d 1 ∷ L ∷ dash ∷ a ∷ [])
    ∷ (d 2 ∷ A ∷ dash ∷ d 0 ∷ d 1 ∷ [])
    ∷ (d 3 ∷ K ∷ dash ∷ d 2 ∷ [])
    ∷ [])

-- "P3: (a*b*)*"
unfoldable pub P3 : List ℕ
P3 =
    lines
    ((d 0 ∷ L ∷ dash ∷ a ∷ [])
    ∷ (d 1 ∷ K ∷ dash ∷ d 0 ∷ [])
    ∷ (d 2 ∷ L ∷ dash ∷ b ∷ [])
    ∷ (d 3 ∷ K ∷ dash ∷ d 2 ∷ [])
    ∷ (d 4 ∷ S ∷ dash ∷ d 1 ∷ d 3 ∷ [])
    ∷ (d 5 ∷ K ∷ dash ∷ d 4 ∷ [])
    ∷ [])

-- "P4: (a|ab)(b|e)"
unfoldable pub P4 : List ℕ
P4 =
    lines
    ((d 0 ∷ L ∷ dash ∷ a ∷ [])
    ∷ (d 1 ∷ L ∷ dash ∷ a ∷ [])
    ∷ (d 2 ∷ L ∷ dash ∷ b ∷ [])
    ∷ (d 3 ∷ S ∷ dash ∷ d 1 ∷ d 2 ∷ [])
    ∷ (d 4 ∷ A ∷ dash ∷ d 0 ∷ d 3 ∷ [])
    ∷ (d 5 ∷ L ∷ dash ∷ b ∷ [])
    ∷ (d 6 ∷ E ∷ dash ∷ [])
    ∷ (d 7 ∷ A ∷ dash ∷ d 5 ∷ d 6 ∷ [])
    ∷ (d 8 ∷ S ∷ dash ∷ d 4 ∷ d 7 ∷ [])
    ∷ [])

-- "P5: a*a"
unfoldable pub P5 : List ℕ
P5 =
    lines
    ((d 0 ∷ L ∷ dash ∷ a ∷ [])
    ∷ (d 1 ∷ K ∷ dash ∷ d 0 ∷ [])
    ∷ (d 2 ∷ L ∷ dash ∷ a ∷ [])
    ∷ (d 3 ∷ S ∷ dash ∷ d 1 ∷ d 2 ∷ [])
    ∷ [])

-- 01, "A whole listing": its six lines
unfoldable pub Listing : List ℕ
Listing =
    lines
    ((d 0 ∷ R ∷ dash ∷ d 0 ∷ d 9 ∷ [])
    ∷ (d 1 ∷ L ∷ dash ∷ W ∷ [])
    ∷ (d 2 ∷ S ∷ d 9 ∷ d 1 ∷ d 0 ∷ [])
    ∷ (d 3 ∷ R ∷ d 1 ∷ d 0 ∷ d 9 ∷ [])
    ∷ (d 4 ∷ A ∷ dash ∷ d 2 ∷ d 3 ∷ [])
    ∷ (d 5 ∷ K ∷ dash ∷ d 4 ∷ [])
    ∷ [])

-- ── 02, Job 2: patterns with kind `Z` ──

-- `Z` over a
unfoldable pub Z1 : List ℕ
Z1 =
    lines
    ((d 0 ∷ L ∷ dash ∷ a ∷ [])
    ∷ (d 1 ∷ Z ∷ dash ∷ d 0 ∷ [])
    ∷ [])

-- `Z` over (a|e): P1 with `Z`
unfoldable pub Z2 : List ℕ
Z2 =
    lines
    ((d 0 ∷ L ∷ dash ∷ a ∷ [])
    ∷ (d 1 ∷ E ∷ dash ∷ [])
    ∷ (d 2 ∷ A ∷ dash ∷ d 0 ∷ d 1 ∷ [])
    ∷ (d 3 ∷ Z ∷ dash ∷ d 2 ∷ [])
    ∷ [])

-- `Z` over (a|aa)
unfoldable pub Z3 : List ℕ
Z3 =
    lines
    ((d 0 ∷ L ∷ dash ∷ a ∷ [])
    ∷ (d 1 ∷ L ∷ dash ∷ a ∷ [])
    ∷ (d 2 ∷ L ∷ dash ∷ a ∷ [])
    ∷ (d 3 ∷ S ∷ dash ∷ d 1 ∷ d 2 ∷ [])
    ∷ (d 4 ∷ A ∷ dash ∷ d 0 ∷ d 3 ∷ [])
    ∷ (d 5 ∷ Z ∷ dash ∷ d 4 ∷ [])
    ∷ [])

-- "a pattern may mix both kinds": `Z` over a, then `K` over a
unfoldable pub Z4 : List ℕ
Z4 =
    lines
    ((d 0 ∷ L ∷ dash ∷ a ∷ [])
    ∷ (d 1 ∷ Z ∷ dash ∷ d 0 ∷ [])
    ∷ (d 2 ∷ L ∷ dash ∷ a ∷ [])
    ∷ (d 3 ∷ K ∷ dash ∷ d 2 ∷ [])
    ∷ (d 4 ∷ S ∷ dash ∷ d 1 ∷ d 3 ∷ [])
    ∷ [])

-- `K` over `Z` over a
unfoldable pub Z5 : List ℕ
Z5 =
    lines
    ((d 0 ∷ L ∷ dash ∷ a ∷ [])
    ∷ (d 1 ∷ Z ∷ dash ∷ d 0 ∷ [])
    ∷ (d 2 ∷ K ∷ dash ∷ d 1 ∷ [])
    ∷ [])

-- `K` over `Z` over (a|e)
unfoldable pub Z6 : List ℕ
Z6 =
    lines
    ((d 0 ∷ L ∷ dash ∷ a ∷ [])
    ∷ (d 1 ∷ E ∷ dash ∷ [])
    ∷ (d 2 ∷ A ∷ dash ∷ d 0 ∷ d 1 ∷ [])
    ∷ (d 3 ∷ Z ∷ dash ∷ d 2 ∷ [])
    ∷ (d 4 ∷ K ∷ dash ∷ d 3 ∷ [])
    ∷ [])

-- `Z` over `K` over (a|e)
unfoldable pub Z7 : List ℕ
Z7 =
    lines
    ((d 0 ∷ L ∷ dash ∷ a ∷ [])
    ∷ (d 1 ∷ E ∷ dash ∷ [])
    ∷ (d 2 ∷ A ∷ dash ∷ d 0 ∷ d 1 ∷ [])
    ∷ (d 3 ∷ K ∷ dash ∷ d 2 ∷ [])
    ∷ (d 4 ∷ Z ∷ dash ∷ d 3 ∷ [])
    ∷ [])

-- ── 02, Job 3: letters of the hot side ──

-- `K` over the range from `~`, the last letter below the gap, to byte 161, the first above it
unfoldable pub H1 : List ℕ
H1 =
    lines
    ((d 0 ∷ R ∷ dash ∷ 126 ∷ 161 ∷ [])
    ∷ (d 1 ∷ K ∷ dash ∷ d 0 ∷ [])
    ∷ [])
