-- `parser::read` meets its contract.
use mathlib.Core.Path.{refl}
use native.Mathlib.Omega.{arith}
use Rattle.syntax.specs.TreeLaws.{obeys_iff}
use Rattle.table.specs.CellLaws.{holds_good}
use Rattle.parser.specs.ParseLaws.{tested, parse_words, fillable, filled_long, parse_unreadable, first_swept, root_writable, parse_done, obeys_few}
use Rattle.parser.proofs.read.Goals as goal

pub returns-then-words-needed : goal.returns-then-words-needed
returns-then-words-needed c = parse_words _ _ _ _ c.requires _ refl c.if-words-needed.true

pub table_of-table-requires : goal.table_of-table-requires
table_of-table-requires c = (obeys_iff _).0 c.requires.good

pub fill-requires : goal.fill-requires
fill-requires c = (fillable (tested c.requires c.if-words-needed.false), c.table_of-table.ensures)

pub overflow_sub-root : goal.overflow_sub-root
overflow_sub-root c = omega (arith, obeys_few _ c.requires.good)

pub is_open-requires : goal.is_open-requires
is_open-requires c = (
  omega (arith, filled_long (tested c.requires c.if-words-needed.false) c.fill.ensures, c.if-words-needed.false),
  omega (arith, obeys_few _ c.requires.good),
)

pub returns-then-not-is_open : goal.returns-then-not-is_open
returns-then-not-is_open c = parse_unreadable (tested c.requires c.if-words-needed.false) c.fill.ensures c.is_open.ensures _ c.if-not-is_open.true

pub write_code-requires : goal.write_code-requires
write_code-requires c =
    let d = tested c.requires c.if-words-needed.false in
    let first = first_swept d c.fill.ensures c.is_open.ensures c.if-not-is_open.false in
    (holds_good _ _ d.good c.table_of-table.ensures, omega (arith, obeys_few _ d.good), root_writable _ _ _ first _ c.table_of-table.ensures)

pub returns : goal.returns
returns c =
    let d = tested c.requires c.if-words-needed.false in
    let first = first_swept d c.fill.ensures c.is_open.ensures c.if-not-is_open.false in
    parse_done d c.fill.ensures c.is_open.ensures c.if-not-is_open.false (c.write_code.ensures (root_writable _ _ _ first _ c.table_of-table.ensures))
