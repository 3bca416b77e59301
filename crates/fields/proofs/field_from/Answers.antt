use Rattle.std.proofs.Common.{◌≡◌, ◌<◌, sym, ◌∙◌, arith, Some, length, drop, length-take-le, length-drop}
use Rattle.std.proofs.lemmas.List.{take_rest}
use Rattle.fields.specs.Fields.{field_size, size_inside, field_found, found_small}
use Rattle.fields.proofs.field_from.Goals as goal
use Rattle.fields.proofs.field_from.Goals.{In_ok-size}

-- the size that is found, told of the text
size : (c : In_ok-size) → field_size c.args.within (drop c.args.at c.args.text.now) ≡ Some c.in_ok-size.size
size c = rw take_rest at (sym c.size_of_field.ensures ∙ c.in_ok-size.was)

inside : (c : In_ok-size) → c.in_ok-size.size < length (drop c.args.at c.args.text.now)
inside c = (size_inside c.args.within (drop c.args.at c.args.text.now) c.in_ok-size.size (size c)).1

pub slice_bounds-result-end : goal.slice_bounds-result-end
slice_bounds-result-end c = rw take_rest (sym (length-take-le c.in_ok-size.size (drop c.args.at c.args.text.now) (omega (arith, inside c))))

pub bounds-rest-size : goal.bounds-rest-size
bounds-rest-size c = rw take_rest (omega (arith, inside (goal.at.bounds-rest-size c).In_ok-size))

pub overflow_add-result : goal.overflow_add-result
overflow_add-result c = omega (arith, inside (goal.at.overflow_add-result c).In_ok-size, length-drop c.args.at c.args.text.now)

pub overflow_add-result-2 : goal.overflow_add-result-2
overflow_add-result-2 c = omega (arith, inside (goal.at.overflow_add-result-2 c).In_ok-size, length-drop c.args.at c.args.text.now)

pub returns : goal.returns
returns c =
    let found = size (goal.at.returns c).In_ok-size in
    rw take_rest (field_found c.args.text.now c.args.at c.args.within _ found, found_small c.args.text.now c.args.at c.args.within _ found)
