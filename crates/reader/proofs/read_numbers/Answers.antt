-- `reader::read_numbers` meets its contract: the goals that the check does not find by itself. Assumes nothing.
use Rattle.std.proofs.Common.{refl, sym, ◌≡◌, ◌∙◌, ◌<◌, arith, eqb, length, get_or, rules, tests}
use Rattle.std.proofs.lemmas.List.{length_push}
use Rattle.std.proofs.lemmas.Iterator.Adapters.{YieldsList-from_skip}
use Rattle.std.proofs.lemmas.Iterator.Consumers.{YieldsList-turn, YieldsList-end}
use Rattle.std.proofs.lemmas.Iterator.Splits.{YieldsList-from_slice_split}
use Rattle.sheet.specs.Text.{comma}
use Rattle.sheet.specs.Commands.{later_fields, ten, largest_number}
use Rattle.reader.specs.Reading.{number_fits}
use Rattle.reader.proofs.Fields.{next_field, last_field}
use Rattle.reader.proofs.Gather.{none, more, left_out, broken, all}
use Rattle.reader.proofs.read_numbers.Goals as goal
use Rattle.reader.proofs.read_numbers.Goals.{In-Some, then-count-lt-MOST_NUMBERS, else-count-lt-MOST_NUMBERS}

pub loop-field-init : goal.loop-field-init
loop-field-init c = (none (later_fields c.args.line.now), refl)

-- this field is the next of those behind the first
next : (c : In-Some)
    → (c.loop-field.count < length (later_fields c.args.line.now))
    × (c.in-Some.field.now ≡ get_or (later_fields c.args.line.now) c.loop-field.count c.in-Some.field.now)
next c =
    next_field c.args.line.now c.loop-field.count (length c.loop-field.yielded) c.in-Some.field.now c.loop-field.invariant.1
    (YieldsList-turn
    (YieldsList-from_skip 1 (YieldsList-from_slice_split _ (λ b. eqb b comma) c.args.line.now (cc) (cc) (cc) (λ x b q k. search (rules, tests))) (cc))
    c.loop-field.yielded
    _
    c.loop-field.yielded_by
    _
    _
    c.in-Some.field
    c.in-Some.is
    c.next.ensures.steps)

pub returns-in_err-n : goal.returns-in_err-n
returns-in_err-n c =
    c.from_residual.ensures
    ∙ broken c.loop-field.invariant.0 c.in-Some.field.now (next (goal.at.returns-in_err-n c).In-Some) c.read_number.ensures c.in_err-n.was

pub overflow_cast-values : goal.overflow_cast-values
overflow_cast-values c = omega (arith, number_fits ten largest_number _ _ (sym c.in_ok-n.was ∙ c.read_number.ensures))

pub loop-field-preserved : goal.loop-field-preserved
loop-field-preserved c =
    let here = next (goal.at.loop-field-preserved c).In-Some in
    let number = length_push c.loop-field.yielded c.in-Some.field in
    let invariant = c.loop-field.invariant in (
      elim c.if-count-lt-MOST_NUMBERS.branch [
        | then-count-lt-MOST_NUMBERS w ↦ rw w.values-is (more invariant.0 c.in-Some.field.now here c.read_number.ensures _ c.in_ok-n.was)
        | else-count-lt-MOST_NUMBERS w ↦
            rw w.values-is (left_out invariant.0 c.in-Some.field.now here c.read_number.ensures _ w.if-count-lt-MOST_NUMBERS.false c.in_ok-n.was)
      ],
      omega (arith, invariant.1),
    )

pub returns : goal.returns
returns c =
    all c.loop-field.invariant.0
    (last_field c.args.line.now _ _ c.loop-field.invariant.1
    (YieldsList-end
    (YieldsList-from_skip 1 (YieldsList-from_slice_split _ (λ b. eqb b comma) c.args.line.now (cc) (cc) (cc) (λ x b q k. search (rules, tests))) (cc))
    c.loop-field.yielded
    _
    c.loop-field.yielded_by
    _
    _
    c.in-None.is
    c.next.ensures.steps).1)
