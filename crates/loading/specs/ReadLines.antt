-- Reading the lines of a text: what is known line by line.
use Rattle.std.specs.Prelude.{◌≡◌, List, [], ◌++◌, ℕ, ◌-◌, ◌≤◌, length, take, drop, replicate, Result, Ok, Err}
use Rattle.syntax.specs.declared.Line.{Line}
use Rattle.syntax.specs.declared.Pattern.{Pattern}
use Rattle.refusals.specs.declared.Refusal.{Refusal}
use Rattle.refusals.specs.declared.Refusal.TheVariants.{LineForm}
use Rattle.fields.specs.Text.{rows, Forms, good, fault, forms}
use Rattle.syntax.specs.Table.{blank, table}

-- the table of the lines of a text, or the first form fault
abbrev pub read_as : Forms → Result Pattern Refusal
read_as (good xs) = Ok (table xs)
read_as (fault j) = Err (LineForm j)

-- lines in front of what is read later
abbrev pub lines_front : List Line → Forms → Forms
lines_front xs (good ys) = good (xs ++ ys)
lines_front xs (fault j) = fault j

-- what holds before the line at position `at` is read
pub record ReadSoFar (text : List ℕ) (p : Pattern) (at : ℕ) : Type 0 where
  pub within : at ≤ length text
  pub few : p.count ≤ 64
  pub size : length p.lines ≡ 64
  pub unwritten : drop p.count p.lines ≡ replicate (64 - p.count) blank
  pub rest : forms 0 (rows text) ≡ lines_front (take p.count p.lines) (forms p.count (rows (drop at text)))
