-- Account fields, computed: what 02, Job 7 takes and what it refuses. They come first, so that a wrong definition shows by its numbers.
use Rattle.std.specs.Prelude.{◌≡◌, refl, [], ◌∷◌, map}
use Rattle.fields.specs.Text.{digit, all_digits, decimal, account_number, account}

-- `-`
pub dash-account : account (45 ∷ []) ≡ 0
unfolding account
dash-account = refl

-- 0, 00, 09, 010
pub leading_zeros : map account ((48 ∷ []) ∷ (48 ∷ 48 ∷ []) ∷ (48 ∷ 57 ∷ []) ∷ (48 ∷ 49 ∷ 48 ∷ []) ∷ []) ≡ 201 ∷ 201 ∷ 201 ∷ 201 ∷ []
unfolding account account_number digit all_digits decimal
leading_zeros = refl

-- 1, 9
pub one_digit-accounts : map account ((49 ∷ []) ∷ (57 ∷ []) ∷ []) ≡ 1 ∷ 9 ∷ []
unfolding account account_number digit all_digits decimal
one_digit-accounts = refl

-- 10, 20, 99
pub two_digit-accounts : map account ((49 ∷ 48 ∷ []) ∷ (50 ∷ 48 ∷ []) ∷ (57 ∷ 57 ∷ []) ∷ []) ≡ 10 ∷ 20 ∷ 99 ∷ []
unfolding account account_number digit all_digits decimal
two_digit-accounts = refl

-- 100, 199, 200
pub three_digit-accounts : map account ((49 ∷ 48 ∷ 48 ∷ []) ∷ (49 ∷ 57 ∷ 57 ∷ []) ∷ (50 ∷ 48 ∷ 48 ∷ []) ∷ []) ≡ 100 ∷ 199 ∷ 200 ∷ []
unfolding account account_number digit all_digits decimal
three_digit-accounts = refl

-- 201, 256, 265, 1000
pub above-the-limit :
    map account ((50 ∷ 48 ∷ 49 ∷ []) ∷ (50 ∷ 53 ∷ 54 ∷ []) ∷ (50 ∷ 54 ∷ 53 ∷ []) ∷ (49 ∷ 48 ∷ 48 ∷ 48 ∷ []) ∷ []) ≡ 201 ∷ 201 ∷ 201 ∷ 201 ∷ []
unfolding account account_number digit all_digits decimal
above-the-limit = refl

-- an empty field, `+9`, `--`, `-1`, `1-`
pub no-numbers :
    map account ([] ∷ (43 ∷ 57 ∷ []) ∷ (45 ∷ 45 ∷ []) ∷ (45 ∷ 49 ∷ []) ∷ (49 ∷ 45 ∷ []) ∷ []) ≡ 201 ∷ 201 ∷ 201 ∷ 201 ∷ 201 ∷ []
unfolding account account_number digit all_digits decimal
no-numbers = refl
