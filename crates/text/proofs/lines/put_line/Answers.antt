-- `text::lines::put_line` meets its contract: two puts are one of the joined bytes.
use mathlib.Core.Path.{refl}
use Rattle.text.specs.Putting.{line_done}
use Rattle.text.proofs.lines.put_line.Goals as goal

pub returns : goal.returns
returns c = let given = c.args in
    line_done _ _ given.word.now given.a given.b _ _ _ _ _ c.put_entry-end.ensures c.put_byte.ensures refl
