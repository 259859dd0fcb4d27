-- `bench_c::bench_look` meets its contract. Assumes nothing.
use Rattle.std.proofs.Common.{sym, ◌∙◌, ◌+◌, ◌≤◌, arith, length}
use Rattle.network.specs.Sizes.{shape_of}
use Rattle.network.proofs.RefusalLaws.{number-positive}
use Rattle.queue.specs.HeldWords.{held-end}
use Rattle.calls.specs.Returns.{Looked, look-shut, look-open}
use Rattle.bench_c.specs.OutLaws.{look-cleared, look-told}
use Rattle.bench_c.proofs.bench_look.Goals as goal
use Rattle.bench_c.proofs.bench_look.Goals.{In-Ok}

looked : (c : In-Ok) → Looked c.args.words.now c.args.node c.args.queue c.in-Ok.s
looked c = look-open c.args.words.now c.args.node c.args.queue c.open_look.ensures c.in-Ok.is

pub returns-in-Err : goal.returns-in-Err
returns-in-Err c =
    let a = c.args in
    let x = look-shut a.words.now a.node a.queue c.open_look.ensures c.in-Err.is in
    record { answer = c.from.ensures ∙ sym x; out = look-cleared a.words.now a.node a.queue (λ z. let p = number-positive c.in-Err.refusal in omega arith) }

pub queue_start-start-requires : goal.queue_start-start-requires
queue_start-start-requires c = let k = (looked (goal.at.queue_start-start-requires c).In-Ok).queue in (k.network.in-range, k.node, k.queue)

pub held_count-count-requires : goal.held_count-count-requires
held_count-count-requires c = (looked (goal.at.held_count-count-requires c).In-Ok).queue

pub overflow_add-from : goal.overflow_add-from
overflow_add-from c =
    let e : c.queue_start-start.result + 1 + c.held_count-count.result ≤ length c.args.words.now =
    held-end (shape_of c.in-Ok.s) c.args.words.now c.args.node c.args.queue c.queue_start-start.result c.held_count-count.result
    (looked (goal.at.overflow_add-from c).In-Ok).queue c.queue_start-start.ensures c.held_count-count.ensures in
    omega (arith, c.well_formed.0)

pub returns-in-Ok : goal.returns-in-Ok
returns-in-Ok c =
    let a = c.args in
    let k = looked (goal.at.returns-in-Ok c).In-Ok in
    record { answer = sym k.passed; out = look-told (shape_of c.in-Ok.s) a.words.now a.node a.queue c.queue_start-start.result c.held_count-count.result k.sizes k.passed c.queue_start-start.ensures c.held_count-count.ensures }
