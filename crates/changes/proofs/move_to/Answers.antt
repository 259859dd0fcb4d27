-- `changes::move_to` meets its contract. What is known once the head has left is one record, `left`; each need after it cites a law of that
-- record. Assumes nothing.
use Rattle.std.proofs.Common.{◌≡◌, ap, ◌∙◌, ℕ, ◌/◌}
use Rattle.network.specs.Sizes.{shape_of, dimension_of, direction_of}
use Rattle.network.specs.Packet.{hop}
use Rattle.network.proofs.TorusLaws.{sizes-torus}
use Rattle.network.specs.Routes.{target}
use Rattle.changes.proofs.ChangeLaws.{Left, delivered-left, moves-handed, handed-words, target-checked, target_room, moves-arrived, moved-words}
use Rattle.changes.proofs.move_to.Goals as goal
use Rattle.changes.proofs.move_to.Goals.{After-hop-hopped, After-pop-p}

left : (c : After-pop-p)
    → let a = c.args in Left (shape_of a.s) a.words.now c.pop-p.new.words a.n a.q a.o
left c =
    record {
      torus = sizes-torus c.args.s c.requires.network.in-range;
      network = c.requires.network;
      permitted = c.requires.permitted;
      left = c.pop-p.ensures.words;
    }

pub raise-requires : goal.raise-requires
raise-requires c = let may = delivered-left (left (goal.at.raise-requires c).After-pop-p) in record { at_in_bounds = may.0; at_bound = may.1 }

pub raise-requires-then-o-eq-DELIVER : goal.raise-requires-then-o-eq-DELIVER
raise-requires-then-o-eq-DELIVER c =
    let may = moves-handed (left (goal.at.raise-requires-then-o-eq-DELIVER c).After-pop-p) c.raise.new.words c.raise.ensures in
    record { at_in_bounds = may.0; at_bound = may.1 }

pub returns-then-o-eq-DELIVER : goal.returns-then-o-eq-DELIVER
returns-then-o-eq-DELIVER c = record { words = handed-words (left (goal.at.returns-then-o-eq-DELIVER c).After-pop-p) c.raise.new.words c.raise-then-o-eq-DELIVER.new.words c.if-o-eq-DELIVER.true c.raise.ensures c.raise-then-o-eq-DELIVER.ensures; head = c.pop-p.ensures.head }

-- the hop is along the output's dimension
hopped : (h : After-hop-hopped)
    → h.hop-hopped.result ≡ hop (dimension_of (direction_of h.args.o)) h.pop-p.result
hopped h = h.hop-hopped.ensures ∙ ap (λ (d : ℕ). hop (d / 2) h.pop-p.result) h.direction_of.ensures

pub push-requires : goal.push-requires
unfolding target
push-requires c =
    let k = left (goal.at.push-requires c).After-pop-p in
    let away = c.if-o-eq-DELIVER.false in
    let there = c.requires.there_value away in
    record { checked_queue = target-checked k c.args.there away there; q_len_bound = target_room k c.args.there away there }

pub raise-requires-2 : goal.raise-requires-2
unfolding target
raise-requires-2 c =
    let may = moves-arrived (left (goal.at.raise-requires-2 c).After-pop-p) c.args.there c.if-o-eq-DELIVER.false (c.requires.there_value c.if-o-eq-DELIVER.false) c.hop-hopped.result
    c.push.new.words c.push.ensures in
    record { at_in_bounds = may.0; at_bound = may.1 }

pub returns : goal.returns
unfolding target
returns c = let same = moved-words (left (goal.at.returns c).After-pop-p) c.args.there c.if-o-eq-DELIVER.false (c.requires.there_value c.if-o-eq-DELIVER.false) in record { words = same c.pop-p.result c.hop-hopped.result c.push.new.words c.raise-2.new.words c.pop-p.ensures.head (hopped (goal.at.returns c).After-hop-hopped) c.push.ensures c.raise-2.ensures; head = c.pop-p.ensures.head }
