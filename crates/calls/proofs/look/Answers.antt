-- `calls::look` meets its contract. Assumes nothing.
use Rattle.std.proofs.Common.{◌∙◌, ◌≢◌, ◌+◌, ◌≤◌, arith, length}
use Rattle.network.specs.Sizes.{shape_of}
use Rattle.network.specs.Refusals.{look_refusal}
use Rattle.network.proofs.RefusalLaws.{number-positive}
use Rattle.queue.specs.HeldWords.{held-part, held-end}
use Rattle.calls.specs.Returns.{Looked, look-shut, look-open, look-refused, look-shown}
use Rattle.calls.specs.Place.{place-refused, place-shown}
use Rattle.calls.proofs.look.Goals as goal
use Rattle.calls.proofs.look.Goals.{In-Ok, After-held_count-count}

looked : (c : In-Ok) → Looked c.args.words.now c.args.node c.args.queue c.in-Ok.s
looked c = look-open c.args.words.now c.args.node c.args.queue c.open_look.ensures c.in-Ok.is

pub returns-in-Err : goal.returns-in-Err
returns-in-Err c =
    let a = c.args in
    let x = look-shut a.words.now a.node a.queue c.open_look.ensures c.in-Err.is in
    let ne : look_refusal a.words.now a.node a.queue ≢ 0 = λ z. let p = number-positive c.in-Err.field-0 in omega arith in
    let e = look-refused a.words.now a.node a.queue ne in
    record { part = e; place = place-refused _ _ _ _ ne e }

pub queue_start-start-requires : goal.queue_start-start-requires
queue_start-start-requires c = let k = (looked (goal.at.queue_start-start-requires c).In-Ok).queue in (k.network.in-range, k.node, k.queue)

pub held_count-count-requires : goal.held_count-count-requires
held_count-count-requires c = (looked (goal.at.held_count-count-requires c).In-Ok).queue

-- the held words end before the words do
ends : (c : After-held_count-count) → c.queue_start-start.result + 1 + c.held_count-count.result ≤ length c.args.words.now
ends c =
    let a = c.args in
    let k = look-open a.words.now a.node a.queue c.open_look.ensures c.in-Ok.is in
    held-end (shape_of c.in-Ok.s) a.words.now a.node a.queue c.queue_start-start.result c.held_count-count.result k.queue c.queue_start-start.ensures c.held_count-count.ensures

pub overflow_add-from : goal.overflow_add-from
overflow_add-from c = let e = ends (goal.at.overflow_add-from c).After-held_count-count in omega (arith, c.well_formed.0)

pub overflow_add-to : goal.overflow_add-to
overflow_add-to c = let e = ends (goal.at.overflow_add-to c).After-held_count-count in omega (arith, c.well_formed.0)

pub between-requires : goal.between-requires
between-requires c = let e = ends (goal.at.between-requires c).After-held_count-count in (omega arith, omega arith)

pub returns-in-Ok : goal.returns-in-Ok
returns-in-Ok c =
    let a = c.args in
    let k = looked (goal.at.returns-in-Ok c).In-Ok in
    let e = look-shown (shape_of c.in-Ok.s) a.words.now _ a.node a.queue k.sizes k.passed
    (c.between.ensures.part ∙ held-part (shape_of c.in-Ok.s) a.words.now a.node a.queue c.queue_start-start.result c.held_count-count.result k.queue c.queue_start-start.ensures c.held_count-count.ensures) in
    record { part = e; place = place-shown (shape_of c.in-Ok.s) _ _ _ _ c.queue_start-start.result k.sizes c.queue_start-start.ensures c.between.ensures.place e }
