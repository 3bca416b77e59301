-- A plain stack of pages, and runs of calls. Definitions only.
use Rattle.std.specs.Prelude.{◌≡◌, not, List, [], ◌∷◌, ◌++◌, map, ℕ, ◌+◌, eqb, leb, ltb, length, Result}
use Rattle.desk.specs.declared.DeskRefusal.{DeskRefusal}
use Rattle.syntax.specs.declared.Pattern.{Pattern}
use Rattle.syntax.specs.Letter.{first_bad}
use Rattle.refusals.specs.declared.Refusal.TheVariants.{TapeByte}
use Rattle.refusals.specs.Refusals.{Answer, answer}
use Rattle.refusals.specs.Checks.{first_of}
use Rattle.desk.specs.declared.Desk.{Desk}
use Rattle.desk.specs.declared.DeskRefusal.TheVariants.{Base, DeskLimits, DeskFull, DeskEmpty}
use Rattle.desk.specs.Desks.{page_limit, good_page, letters_held, desk_refused, desk_answer, if_accepted}
use Rattle.desk.specs.Desks.{DeskTest, words_for, table_check, cells_check, words_check, open_order, Opens, Puts, Withdraws}

-- 02: "a plain stack of pages", the last put first
abbrev pub Stack : Type 0
Stack = List (List ℕ)

-- 02: "its letters are those pages joined, the last put first"
abbrev pub joined : Stack → List ℕ
joined [] = []
joined (page ∷ s) = page ++ joined s

-- a call, with the table that it has and the number of words that it is lent
pub data Call : Type 0 where
  opening : (p : Pattern) (words : ℕ) → Call
  putting : (p : Pattern) (page : List ℕ) (words : ℕ) → Call
  withdrawing : (p : Pattern) → Call

-- ── what a stack answers ──
-- its causes, where the letters have so many cells
abbrev pub stack_order : (cells : ℕ) → Call → Stack → List DeskTest
stack_order cells (opening p words) s = open_order p words
stack_order cells (putting p page words) s =
    table_check p
    ∷ cells_check cells
    ∷ (not (good_page (length page)), DeskLimits)
    ∷ (leb page_limit (length s), DeskFull)
    ∷ (ltb (first_bad page) (length page), Base (TapeByte (first_bad page)))
    ∷ words_check words (words_for (length (joined s) + length page))
    ∷ []
stack_order cells (withdrawing p) s = table_check p ∷ cells_check cells ∷ (eqb (length s) 0, DeskEmpty) ∷ []

abbrev pub top_off : Stack → Stack
top_off [] = []
top_off (page ∷ s) = s

-- the stack after a call that is accepted
abbrev pub stack_next : Call → Stack → Stack
stack_next (opening p words) s = []
stack_next (putting p page words) s = page ∷ s
stack_next (withdrawing p) s = top_off s

-- 02: "each accepted one with the count of letters then held"
unfoldable pub stack_answer : (cells : ℕ) → Call → Stack → Answer
stack_answer cells c s = first_of desk_refused (stack_order cells c s) (answer 0 (length (joined (stack_next c s))))

unfoldable pub stack_step : (cells : ℕ) → Call → Stack → Stack
stack_step cells c s = if_accepted (stack_answer cells c s) (stack_next c s) s

abbrev pub stack_answers : (cells : ℕ) → List Call → Stack → List Answer
stack_answers cells [] s = []
stack_answers cells (c ∷ cs) s = stack_answer cells c s ∷ stack_answers cells cs (stack_step cells c s)

abbrev pub stack_behind : (cells : ℕ) → List Call → Stack → Stack
stack_behind cells [] s = s
stack_behind cells (c ∷ cs) s = stack_behind cells cs (stack_step cells c s)

-- ── runs of calls ──
-- what is known of a call is its promise: the desk and the letters before and after it, with any words of that number
abbrev pub Does : Call → (d d_now : Desk) → (letters letters_now : List ℕ) → Result ℕ DeskRefusal → Type 0
Does (opening p n) d d_now letters letters_now r =
    (words : List ℕ) × (words_now : List ℕ) × (length words ≡ n) × (Opens p d d_now words words_now r) × (letters_now ≡ letters)
Does (putting p page n) d d_now letters letters_now r =
    (words : List ℕ) × (words_now : List ℕ) × (length words ≡ n) × Puts p page d d_now letters letters_now words words_now r
Does (withdrawing p) d d_now letters letters_now r = (Withdraws p d d_now letters r) × (letters_now ≡ letters)

-- 02: "while nothing but its calls writes desk and letters": each call finds them as the one before left them
pub data Run : (d : Desk) → (letters : List ℕ) → List Call → List (Result ℕ DeskRefusal) → (d_now : Desk) → (letters_now : List ℕ) → Type 0 where
  rest : {d : Desk} {letters : List ℕ} → Run d letters [] [] d letters
  next : {d e f : Desk} {letters after last : List ℕ} {c : Call} {cs : List Call} {r : Result ℕ DeskRefusal} {rs : List (Result ℕ DeskRefusal)} → Does c d e letters after r
      → Run e after cs rs f last → Run d letters (c ∷ cs) (r ∷ rs) f last

-- the answers of a run are those of the stack, number and value; the letters held at its end are its pages joined
pub record LikeAStack (cells : ℕ) (cs : List Call) (s : Stack) (rs : List (Result ℕ DeskRefusal)) (d_now : Desk) (letters_now : List ℕ) : Type 0 where
  pub answers : map desk_answer rs ≡ stack_answers cells cs s
  pub holds : letters_held d_now letters_now ≡ joined (stack_behind cells cs s)
  pub pages : d_now.count ≡ length (stack_behind cells cs s)
