-- THE DESK FROM C IS A STACK. 02: "From an opening, while nothing but its calls writes desk and letters, the desk answers any run of calls as a
-- plain stack of pages would". What the services promise of runs holds for calls on a desk in bytes, each with a pattern's text.
use Rattle.std.specs.Prelude.{◌≡◌, refl, not, cond, List, [], ◌∷◌, ◌++◌, map, ℕ, eqb, length, Result}
use Rattle.std.proofs.Common.{sym, ap, ap₂, subst, ◌∙◌, eq-eqb}
use Rattle.desk.specs.declared.DeskRefusal.{DeskRefusal}
use Rattle.refusals.specs.Refusals.{answer}
use Rattle.refusals.specs.Checks.{first_of}
use Rattle.refusals.specs.CheckLaws.{zero-said, clear_parts}
use Rattle.bits.specs.Bits.{in_front}
use Rattle.loading.specs.Load.{load_table}
use Rattle.first_sweep.specs.Tail.{tail_words}
use Rattle.desk.specs.declared.DeskRefusal.TheVariants.{DeskLimits}
use Rattle.desk.specs.Desks.{letters_held, empty_desk, desk_refused, desk_answer, DeskTest, open_order}
use Rattle.desk.specs.Numbers.{desk_number_positive}
use Rattle.desk.proofs.DeskWays.{open_clear}
use Rattle.desk.specs.Stacks.{joined, Call, opening, putting, withdrawing, stack_answers, stack_behind, Does, Run, rest, next}
use Rattle.desk.proofs.StackLaws.{desk_is_a_stack}
use Rattle.packing.specs.Packing.{unpacked}
use Rattle.packing.specs.DeskBytes.{desk_bytes, desk_of_bytes, bytes_of_desk}
use Rattle.packing.specs.DeskBytesLaws.{desk_back}
use Rattle.wumbyra.specs.Packed.{desk_open_answer, DeskOpensText, DeskPutsText, DeskWithdrawsText}
use Rattle.wumbyra.proofs.DeskServed.{opens_served, puts_served, withdraws_served}

-- ── runs of calls from C ──
-- what is known of a call is its promise, with some text of its table
abbrev pub TextDoes : Call → (desk desk_now letters letters_now : List ℕ) → (r : ℕ) → Type 0
TextDoes (opening p n) desk desk_now letters letters_now r =
    (text : List ℕ) × (words : List ℕ) × (words_now : List ℕ) × (load_table text ≡ p) × (length words ≡ n)
    × (DeskOpensText text desk desk_now words words_now r) × (letters_now ≡ letters)
TextDoes (putting p page n) desk desk_now letters letters_now r =
    (text : List ℕ) × (words : List ℕ) × (words_now : List ℕ) × (load_table text ≡ p) × (length words ≡ n)
    × DeskPutsText text desk desk_now page letters letters_now words words_now r
TextDoes (withdrawing p) desk desk_now letters letters_now r =
    (text : List ℕ) × (load_table text ≡ p) × (DeskWithdrawsText text desk desk_now letters r) × (letters_now ≡ letters)

-- each call finds desk and letters as the one before left them
pub data TextRun : (desk letters : List ℕ) → List Call → List ℕ → (desk_now letters_now : List ℕ) → Type 0 where
  ends : {desk letters : List ℕ} → TextRun desk letters [] [] desk letters
  goes : {desk after end letters between last : List ℕ} {c : Call} {cs : List Call} {r : ℕ} {rs : List ℕ} → TextDoes c desk after letters between r
      → TextRun after between cs rs end last → TextRun desk letters (c ∷ cs) (r ∷ rs) end last

-- ── they are runs of the services ──
abbrev Served : Call → (desk now letters letters_now : List ℕ) → (r : ℕ) → Type 0
Served c desk now letters letters_now r =
    (a : Result ℕ DeskRefusal) × (unpacked r ≡ desk_answer a) × (Does c (desk_of_bytes desk) (desk_of_bytes now) letters letters_now a) × (length now ≡ desk_bytes)

served : (c : Call) (desk now letters letters_now : List ℕ) (r : ℕ) → length desk ≡ desk_bytes → TextDoes c desk now letters letters_now r
    → Served c desk now letters letters_now r
served (opening p n) desk now letters letters_now r whole (text, words, words_now, e, w, t, k) =
    let s = opens_served text desk now r whole words words_now t in
    subst (λ x. Served (opening x n) desk now letters letters_now r) e (s.0, s.1, (words, words_now, w, s.2, k), s.3)
served (putting p page n) desk now letters letters_now r whole (text, words, words_now, e, w, t) =
    let s = puts_served text desk now r whole letters page letters_now words words_now t in
    subst (λ x. Served (putting x page n) desk now letters letters_now r) e (t.desk_answered, t.answers, (words, words_now, w, s.0), s.1)
served (withdrawing p) desk now letters letters_now r whole (text, e, t, k) =
    let s = withdraws_served text desk now r whole letters t in
    subst (λ x. Served (withdrawing x) desk now letters letters_now r) e (t.desk_answered, t.answers, (s.0, k), s.1)

abbrev RunServed : (desk letters : List ℕ) → List Call → List ℕ → (end last : List ℕ) → Type 0
RunServed desk letters cs rs end last =
    (told : List (Result ℕ DeskRefusal)) × (map unpacked rs ≡ map desk_answer told) × Run (desk_of_bytes desk) letters cs told (desk_of_bytes end) last

run_served : {desk letters end last : List ℕ} {cs : List Call} {rs : List ℕ} → TextRun desk letters cs rs end last → length desk ≡ desk_bytes
    → RunServed desk letters cs rs end last
run_served ends whole = ([], refl, rest)
run_served (goes {desk = desk} {after = after} {letters = letters} {between = between} {c = c} {r = r} does more) whole =
    let one = served c desk after letters between r whole does in
    let all = run_served more one.3 in
    (one.0 ∷ all.0, ap₂ (λ x xs. x ∷ xs) one.1 all.1, next one.2 all.2)

-- THE THEOREM: behind an accepted opening, whatever bytes were lent for the desk, any run of calls is answered as a stack that is empty at first
-- answers it, number and value; the letters held are its pages joined, and the count is their number.
pub text_desk_is_a_stack : {text desk desk_now words words_now : List ℕ} {r : ℕ} → DeskOpensText text desk desk_now words words_now r
    → (unpacked r).number ≡ 0 → {letters end last : List ℕ} {cs : List Call} {rs : List ℕ} → TextRun desk_now letters cs rs end last
    → (map unpacked rs ≡ stack_answers (length letters) cs [])
    × (letters_held (desk_of_bytes end) last ≡ joined (stack_behind (length letters) cs []))
    × ((desk_of_bytes end).count ≡ length (stack_behind (length letters) cs []))
unfolding desk_open_answer
text_desk_is_a_stack {text} {desk} {desk_now} {words} t z {letters} {end} {last} {cs} run =
    let p = load_table text in
    let order = open_order p (length words) in
    let behind : List DeskTest = (not (eqb (length desk) desk_bytes), DeskLimits) ∷ [] in
    let a = first_of desk_refused (order ++ behind) (answer 0 0) in
    let none : a.number ≡ 0 = sym (ap (λ x. x.number) t.answers) ∙ z in
    let clear = (clear_parts order behind (zero-said desk_refused desk_number_positive (order ++ behind) (answer 0 0) none)).0 in
    let opened : desk_now ≡ bytes_of_desk empty_desk = t.leaves ∙ ap (λ b. cond b (bytes_of_desk empty_desk) desk) (eq-eqb a.number 0 none) in
    let all = run_served run (ap length opened) in
    let first = ap desk_of_bytes opened ∙ desk_back empty_desk refl in
    let like = desk_is_a_stack (open_clear p empty_desk words clear (in_front (tail_words p []) words) refl) refl
    (subst (λ d. Run d letters cs all.0 (desk_of_bytes end) last) first all.2) in
    (all.1 ∙ like.answers, like.holds, like.pages)
