-- `turns::take_turn` meets its contract. Assumes nothing.
use Rattle.std.specs.Prelude.{Some}
use Rattle.std.proofs.Common.{◌≡◌, sym, ◌∙◌, arith}
use Rattle.network.specs.Calls.{move_of}
use Rattle.network.specs.Sizes.{shape_of}
use Rattle.network.specs.Layout.{accepted, delivered}
use Rattle.network.specs.declared.Stop.{Stop}
use Rattle.turns.specs.declared.Turn.{Turn}
use Rattle.turns.specs.Turns.{turn_by, first-permitted}
use Rattle.network.proofs.LayoutLaws.{header-long}
use Rattle.turns.specs.Turned.{Turned, turned-emptied, turned-spent, turned-nowhere, turned_by, by-nothing}
use Rattle.turns.proofs.take_turn.Goals as goal
use Rattle.turns.proofs.take_turn.Goals.{After-next_move}

pub bounds-words-6 : goal.bounds-words-6
bounds-words-6 c =
    let h = header-long (shape_of c.args.s) c.args.words.now c.requires.network.long in
    omega arith

pub bounds-words-7 : goal.bounds-words-7
bounds-words-7 c =
    let h = header-long (shape_of c.args.s) c.args.words.now c.requires.network.long in
    omega arith

pub returns-then-words : goal.returns-then-words
unfolding accepted delivered
returns-then-words c =
    let all =
    turned-emptied (shape_of c.args.s) c.args.words.now c.args.ready.now c.args.loads.now c.requires.network c.requires.kept_2 c.args.budget c.args.room c.if-words.true in
    record { answer = all.0; words = all.1.0; kept = all.1.1 }

pub returns-then-budget-eq0 : goal.returns-then-budget-eq0
unfolding accepted delivered
returns-then-budget-eq0 c =
    let all =
    turned-spent (shape_of c.args.s) c.args.words.now c.args.ready.now c.args.loads.now c.requires.network c.requires.kept_2 c.args.budget c.args.room c.if-words.false c.if-budget-eq0.true in
    record { answer = all.0; words = all.1.0; kept = all.1.1 }

-- the search named no move
nowhere : (c : After-next_move)
    → turn_by (shape_of c.args.s) c.args.words.now c.args.room c.next_move.result ≡ Turn.Stopped Stop.Emptied
    → Turned (shape_of c.args.s) c.args.words.now c.args.budget c.args.room (Turn.Stopped Stop.Emptied) c.args.words.now
    c.next_move.new.ready c.args.loads.now
unfolding accepted delivered
nowhere c e =
    turned-nowhere (shape_of c.args.s) c.args.words.now c.args.ready.now c.args.loads.now c.requires.network c.requires.kept_2 c.args.budget c.args.room c.next_move.result c.next_move.new.ready
    c.if-words.false c.if-budget-eq0.false c.next_move.ensures.answer e c.next_move.ensures.set

pub turn_by_move-requires : goal.turn_by_move-requires
turn_by_move-requires c = record { network = c.requires.network; near = c.requires.near; kept_2 = record { covered = c.next_move.ensures.set; loaded = c.requires.kept_2.loaded }; permitted = first-permitted (shape_of c.args.s) c.args.words.now c.in-Some.m c.in-Some.ensures.answer }

pub returns-in-None : goal.returns-in-None
returns-in-None c =
    let a = c.args in
    let all =
    nowhere (goal.at.returns-in-None c).After-next_move (by-nothing (shape_of a.s) a.words.now a.room c.next_move.result c.in-None.is) in
    record { answer = all.0; words = all.1.0; kept = all.1.1 }

pub returns-in-Some : goal.returns-in-Some
unfolding accepted delivered
returns-in-Some c =
    let all =
    turned_by (shape_of c.args.s) c.args.words.now c.args.ready.now c.args.loads.now c.requires.network c.requires.kept_2 c.args.budget c.args.room
    (Some c.in-Some.m) c.turn_by_move.result c.turn_by_move.new.words c.turn_by_move.new.ready
    c.turn_by_move.new.loads
    c.if-words.false c.if-budget-eq0.false c.in-Some.ensures.answer
    (c.turn_by_move.ensures.answer, (c.turn_by_move.ensures.words, c.turn_by_move.ensures.kept)) in
    record { answer = all.0; words = all.1.0; kept = all.1.1 }
