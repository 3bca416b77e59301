-- THE DESK IS A STACK. 02: "From an opening, while nothing but its calls writes desk and letters, the desk answers any run of calls as a plain
-- stack of pages would, each accepted one with the count of letters then held, and its letters are those pages joined, the last put first."
use Rattle.std.specs.Prelude.{◌≡◌, refl, Bool, true, ◌&&◌, not, cond, ℕ, ◌+◌, ◌-◌, eqb, leb, ltb, take, Result}
use Rattle.std.proofs.Math.Path.{sym, ap, subst}
use Rattle.std.proofs.Common.{ap₂, ◌∙◌, true≢false, arith, ltb-false, leb-false, eq-eqb, eqb-true}
use Rattle.std.proofs.Math.Bool.{false, and-true}
use mathlib.Core.List.{List, [], ◌∷◌}
use Rattle.std.proofs.lemmas.Bool.{not-false}
use Rattle.std.proofs.Math.ListN.{length, length-append}
use Rattle.std.proofs.lemmas.List.Edits.{sets}
use Rattle.desk.specs.declared.DeskRefusal.{DeskRefusal}
use Rattle.syntax.specs.declared.Pattern.{Pattern}
use Rattle.syntax.specs.Letter.{first_bad, letter_limit}
use Rattle.refusals.specs.declared.Refusal.TheVariants.{TapeByte}
use Rattle.refusals.specs.Refusals.{Answer, answer}
use Rattle.refusals.specs.Checks.{first_of, Clear}
use Rattle.refusals.specs.CheckLaws.{zero-said}
use Rattle.desk.specs.declared.Desk.{Desk}
use Rattle.desk.specs.declared.DeskRefusal.TheVariants.{Base, DeskLimits, DeskFull, DeskEmpty}
use Rattle.desk.specs.Desks.{page_limit, good_page, sum, lengths_held, held, desk_good}
use Rattle.desk.specs.Desks.{empty_desk, with_page, without_page, desk_refused, desk_answer, if_accepted}
use Rattle.desk.specs.Desks.{words_for, table_check, cells_check, words_check, open_answer, put_answer, withdraw_answer, Opens, Puts, Withdraws}
use Rattle.desk.specs.Stacks.{Stack, joined, Call, opening, putting, withdrawing, stack_order, stack_next, stack_answer, stack_step}
use Rattle.desk.specs.Stacks.{Does, Run, rest, next, LikeAStack, top_off}
use Rattle.desk.specs.Numbers.{desk_number_positive}
use Rattle.desk.specs.Lists.{no_bad}
use Rattle.desk.specs.StackPages.{Holds, held-joined, good-held, empty_holds, put_holds, left-held, less_holds}

-- ── a call ──
-- accepted, the new things hold; refused, the old ones
either : (cells : ℕ) (a : Answer) (s t : Stack) (d e : Desk) (letters after : List ℕ) → (a.number ≡ 0 → Holds cells t e after)
    → Holds cells s d letters → Holds cells (if_accepted a t s) (if_accepted a e d) (if_accepted a after letters)
either cells a s t d e letters after new old = go (eqb a.number 0) refl
  where
    go : (b : Bool) → eqb a.number 0 ≡ b → Holds cells (cond b t s) (cond b e d) (cond b after letters)
    go true q = new (eqb-true a.number 0 q)
    go false q = old

same_letters : (a : Answer) (letters : List ℕ) → letters ≡ if_accepted a letters letters
same_letters a letters = go (eqb a.number 0)
  where
    go : (b : Bool) → letters ≡ cond b letters letters
    go true = refl
    go false = refl

-- what a call answers is what the stack answers, and the desk then holds the stack then
record AnswersLike (cells : ℕ) (c : Call) (s : Stack) (e : Desk) (after : List ℕ) (r : Result ℕ DeskRefusal) : Type 0 where
  answers : desk_answer r ≡ stack_answer cells c s
  holds : Holds cells (stack_step cells c s) e after

-- where the answers are the same, the promise's new and old things are those of the stack's step
module _ (cells : ℕ) (c : Call) (s : Stack) (d e new : Desk) (letters after fresh : List ℕ) (r : Result ℕ DeskRefusal) (a : Answer) where
  like : desk_answer r ≡ a → e ≡ if_accepted a new d → after ≡ if_accepted a fresh letters → a ≡ stack_answer cells c s
      → ((stack_answer cells c s).number ≡ 0 → Holds cells (stack_next c s) new fresh) → Holds cells s d letters → AnswersLike cells c s e after r
  unfolding stack_step
  like f g k q accepted h =
      let x = stack_answer cells c s in
      let desk : if_accepted x new d ≡ e = sym (g ∙ ap (λ y. if_accepted y new d) q) in
      let cells_now : if_accepted x fresh letters ≡ after = sym (k ∙ ap (λ y. if_accepted y fresh letters) q) in
      let both = either cells x s (stack_next c s) d new letters fresh accepted h in
      record {
        answers = f ∙ q;
        holds = subst (λ y. Holds cells (if_accepted x (stack_next c s) s) e y) cells_now
            (subst (λ y. Holds cells (if_accepted x (stack_next c s) s) y (if_accepted x fresh letters)) desk both);
      }

-- no cause of the stack's order holds where it accepts
accepted_none : (cells : ℕ) (c : Call) (s : Stack) → (stack_answer cells c s).number ≡ 0 → Clear (stack_order cells c s)
unfolding stack_answer
accepted_none cells c s e =
    zero-said desk_refused desk_number_positive (stack_order cells c s) (answer 0 (length (joined (stack_next c s)))) e

-- opening
module _ (cells : ℕ) (s : Stack) (d e : Desk) (letters : List ℕ) (h : Holds cells s d letters) where
  opened : (p : Pattern) (n : ℕ) (words now : List ℕ) (r : Result ℕ DeskRefusal) → length words ≡ n → Opens p d e words now r → (after : List ℕ)
      → after ≡ letters → AnswersLike cells (opening p n) s e after r
  unfolding open_answer stack_answer
  opened p n words now r w o after k =
      let a = open_answer p (length words) in
      like cells (opening p n) s d e empty_desk letters after letters r a o.answers o.leaves (k ∙ same_letters a letters)
      (ap (open_answer p) w) (λ z. subst (λ x. Holds x [] empty_desk letters) h.size (empty_holds letters)) h

-- putting
-- the answer of a put, by the numbers that a desk and a stack may tell
abbrev put_by : Pattern → (page : List ℕ) → (cells : ℕ) → (wrong : Bool) → (count letters words success : ℕ) → Answer
put_by p page cells wrong count letters words success =
    first_of desk_refused
    (table_check p
    ∷ cells_check cells
    ∷ (wrong, DeskLimits)
    ∷ (leb page_limit count, DeskFull)
    ∷ (ltb (first_bad page) (length page), Base (TapeByte (first_bad page)))
    ∷ words_check words (words_for (letters + length page))
    ∷ [])
    (answer 0 success)

module _ (cells : ℕ) (s : Stack) (d : Desk) (letters : List ℕ) (h : Holds cells s d letters) where
  put_same : (p : Pattern) (page : List ℕ) (words n : ℕ) → n ≡ words → put_answer d p page letters n ≡ stack_answer cells (putting p page words) s
  unfolding put_answer stack_answer
  put_same p page words n w =
      let good = good_page (length page) in
      let all = held-joined cells s d letters h in
      let sum_same : held d + length page ≡ length (joined (page ∷ s)) = omega (arith, all, length-append page (joined s)) in
      let right : (good && desk_good d letters) ≡ good = ap (λ b. good && b) (good-held cells s d letters h) ∙ and-true good in
      ap (λ x. put_by p page x (not (good && desk_good d letters)) d.count (held d) n (held d + length page)) h.size
      ∙ ap (λ x. put_by p page cells (not x) d.count (held d) n (held d + length page)) right
      ∙ ap (λ x. put_by p page cells (not good) x (held d) n (held d + length page)) h.count
      ∙ ap (λ x. put_by p page cells (not good) (length s) x n (held d + length page)) all
      ∙ ap (λ x. put_by p page cells (not good) (length s) (length (joined s)) x (held d + length page)) w
      ∙ ap (put_by p page cells (not good) (length s) (length (joined s)) words) sum_same

  put-new : (p : Pattern) (page : List ℕ) (words : ℕ) → (stack_answer cells (putting p page words) s).number ≡ 0
      → Holds cells (page ∷ s) (with_page d (length page)) (sets letters (letter_limit - (held d + length page)) page)
  put-new p page words z =
      let none = accepted_none cells (putting p page words) s z in
      put_holds cells s d letters page h (ltb-false cells letter_limit none.1.0) (leb-false page_limit (length s) none.1.1.1.0)
      (not-false (good_page (length page)) none.1.1.0) (no_bad page (ltb-false (first_bad page) (length page) none.1.1.1.1.0))

  puts_like : (e : Desk) (after : List ℕ) (p : Pattern) (page : List ℕ) (n : ℕ) (words now : List ℕ) (r : Result ℕ DeskRefusal) → length words ≡ n
      → Puts p page d e letters after words now r → AnswersLike cells (putting p page n) s e after r
  puts_like e after p page n words now r w k =
      like cells (putting p page n) s d e (with_page d (length page)) letters after
      (sets letters (letter_limit - (held d + length page)) page) r (put_answer d p page letters (length words)) k.answers k.leaves
      k.letters-left (put_same p page n (length words) w) (put-new p page n) h

-- withdrawing
abbrev less_by : Pattern → (cells : ℕ) → (wrong : Bool) → (count success : ℕ) → Answer
less_by p cells wrong count success =
    first_of desk_refused (table_check p ∷ cells_check cells ∷ (wrong, DeskLimits) ∷ (eqb count 0, DeskEmpty) ∷ []) (answer 0 success)

top_held : (cells : ℕ) (s : Stack) (d : Desk) (letters : List ℕ) → Holds cells s d letters → held (without_page d) ≡ length (joined (top_off s))
unfolding held lengths_held
top_held cells [] d letters h = let e : d.count - 1 ≡ 0 = omega (arith, h.count) in ap (λ n. sum (take n d.lengths)) e
top_held cells (page ∷ s) d letters h = left-held cells s d letters page h

-- an empty stack is refused with 15, so that a page is there where a withdrawal is accepted
less-new : (cells : ℕ) (s : Stack) (d : Desk) (letters : List ℕ) (p : Pattern) → Holds cells s d letters → (stack_answer cells (withdrawing p) s).number ≡ 0
    → Holds cells (top_off s) (without_page d) letters
less-new cells [] d letters p h z = absurd (true≢false (accepted_none cells (withdrawing p) [] z).1.1.0)
less-new cells (page ∷ s) d letters p h z = less_holds cells s d letters page h

module _ (cells : ℕ) (s : Stack) (d : Desk) (letters : List ℕ) (h : Holds cells s d letters) where
  less_same : (p : Pattern) → withdraw_answer d p letters ≡ stack_answer cells (withdrawing p) s
  unfolding withdraw_answer stack_answer
  less_same p =
      let left = held (without_page d) in
      ap (λ x. less_by p x (not (desk_good d letters)) d.count left) h.size
      ∙ ap (λ x. less_by p cells (not x) d.count left) (good-held cells s d letters h)
      ∙ ap (λ x. less_by p cells false x left) h.count
      ∙ ap (less_by p cells false (length s)) (top_held cells s d letters h)

  withdraws_like : (e : Desk) (after : List ℕ) (p : Pattern) (r : Result ℕ DeskRefusal) → Withdraws p d e letters r → after ≡ letters
      → AnswersLike cells (withdrawing p) s e after r
  withdraws_like e after p r w k =
      let a = withdraw_answer d p letters in
      like cells (withdrawing p) s d e (without_page d) letters after letters r a w.answers w.leaves (k ∙ same_letters a letters)
      (less_same p) (less-new cells s d letters p h) h

-- ── runs ──
one_call : (cells : ℕ) (c : Call) (s : Stack) (d e : Desk) (letters after : List ℕ) (r : Result ℕ DeskRefusal) → Does c d e letters after r → Holds cells s d letters
    → AnswersLike cells c s e after r
one_call cells (opening p n) s d e letters after r (words, now, w, o, k) h = opened cells s d e letters h p n words now r w o after k
one_call cells (putting p page n) s d e letters after r (words, now, w, k) h = puts_like cells s d letters h e after p page n words now r w k
one_call cells (withdrawing p) s d e letters after r (w, k) h = withdraws_like cells s d letters h e after p r w k

run_like : (cells : ℕ) {cs : List Call} {rs : List (Result ℕ DeskRefusal)} {d e : Desk} {letters after : List ℕ} (s : Stack) → Run d letters cs rs e after
    → Holds cells s d letters → LikeAStack cells cs s rs e after
run_like cells s rest h = record { answers = refl; holds = h.holds; pages = h.count }
run_like cells s (next {d = d} {e = e} {letters = letters} {after = after} {c = c} {r = r} does more) h =
    let one = one_call cells c s d e letters after r does h in
    let all = run_like cells (stack_step cells c s) more one.holds in
    record {
      answers = ap₂ (λ x xs. x ∷ xs) one.answers all.answers;
      holds = all.holds;
      pages = all.pages;
    }

-- THE THEOREM. An accepted opening leaves an empty desk, whatever desk and letters were there; any run of calls behind it, refused ones too, is
-- answered as a stack that is empty at first answers it.
pub desk_is_a_stack : {p : Pattern} {d e f : Desk} {words now : List ℕ} {r : Result ℕ DeskRefusal} → Opens p d e words now r → (desk_answer r).number ≡ 0
    → {letters last : List ℕ} {cs : List Call} {rs : List (Result ℕ DeskRefusal)} → Run e letters cs rs f last → LikeAStack (length letters) cs [] rs f last
desk_is_a_stack {p} {d} {e} {words = words} o z {letters} run =
    let a = open_answer p (length words) in
    let zero_first : eqb a.number 0 ≡ true = eq-eqb a.number 0 (sym (ap (λ x. x.number) o.answers) ∙ z) in
    let empty : e ≡ empty_desk = o.leaves ∙ ap (λ b. cond b empty_desk d) zero_first in
    run_like (length letters) [] run (subst (λ x. Holds (length letters) [] x letters) (sym empty) (empty_holds letters))
