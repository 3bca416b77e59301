-- What the program's functions promise: what is printed, and how much of a file it is made from. No contract can say what a file has: `read` of a file
-- says how many bytes it put, and not which. Definitions only.
use Rattle.std.specs.Prelude.{◌≡◌, Result, Ok, Err, List, [], ◌∷◌, ℕ, ◌≤◌, take}
use Rattle.refusals.specs.Refusals.{refused}
use Rattle.loading.specs.Load.{load_table}
use Rattle.refusals.specs.declared.Refusal.{Refusal}
use Rattle.reach.specs.declared.Positions.{Positions}
use Rattle.reach.specs.Locate.{Locates}
use Rattle.text.specs.Text.{line, refused_line}
use Rattle.listing.specs.Listing.{tape_of, listing_of}
use Rattle.listing.specs.Shortened.{text_bytes}

-- bytes of a pattern's text and of a tape that decide the listing (`listing_short` of crate listing)
abbrev pub text_least : ℕ
text_least = text_bytes

abbrev pub tape_least : ℕ
tape_least = 3602

-- 01: "The program `tapelist` reads `pattern.tsv` and `tape.txt`". What is printed is the listing of the bytes held; and where these are the first
-- bytes of two files, up to buffers that hold as many as decide, it is the listing of the whole files.
pub record Prints (text tape bytes : List ℕ) : Type 0 where
  pub held : bytes ≡ listing_of text tape
  pub files : (pattern_file tape_file : List ℕ) (m n : ℕ) → text_least ≤ m → tape_least ≤ n
      → text ≡ take m pattern_file → tape ≡ take n tape_file → bytes ≡ listing_of pattern_file tape_file

-- `located`
abbrev pub located_word : List ℕ
located_word = 108 ∷ 111 ∷ 99 ∷ 97 ∷ 116 ∷ 101 ∷ 100 ∷ []

-- a line of where a tape breaks: the reach, and the position at which the tape resumes; or the refusal
abbrev pub located_line : Result Positions Refusal → List ℕ
located_line (Ok x) = line located_word x.reach x.resume
located_line (Err why) = refused_line (refused why)

-- what is printed after the listing, of the bytes held: what locating promises on the table of the text and the letters of the tape
pub record Tells (text tape bytes : List ℕ) : Type 0 where
  pub located : Result Positions Refusal
  pub locates : Locates (load_table text) (tape_of tape) located
  pub told : bytes ≡ located_line located
