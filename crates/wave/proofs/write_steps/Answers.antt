-- `wave::write_steps` meets its contract: each step leaves less to do and leads on, and its bytes lie within the page. Assumes nothing.
use Rattle.std.proofs.Common.{arith, refl, ap, sym, ◌∙◌, subst, [], ◌++◌, take, append_assoc, append-nil, length-take-le}
use Rattle.std.specs.Io.KnownBytes.{Appends}
use Rattle.std.proofs.KnownBytes.{Appends-nil, Appends-trans}
use Rattle.replay.specs.Steps.{finished, unwritten}
use Rattle.replay.specs.Dumps.{read_dump}
use Rattle.replay.proofs.StepsLaws.{start-finished, done-leads, done_on, used-leads}
use Rattle.wave.proofs.Written.{shown_on, shown_up}
use Rattle.wave.proofs.write_steps.Goals as goal

pub loop-bytes-init : goal.loop-bytes-init
unfolding read_dump
loop-bytes-init g c =
    record {
      fills = refl;
      page = refl;
      leads = ap (finished _ _ _) c.start_read-cursor.ensures ∙ start-finished _ _ _ _;
      kept = λ is. is;
      written = λ is. ([], Appends-nil _, ap (unwritten _ _ _) (sym c.start_read-cursor.ensures));
    }

pub slice_bounds-write-end : goal.slice_bounds-write-end
slice_bounds-write-end g c =
    let on = done_on _ _ _ _ _ _ _ _ c.next_step.ensures.onward c.in-Some.is in
    omega (arith, on.1)

pub slice_bounds-write-end-in-Some : goal.slice_bounds-write-end-in-Some
slice_bounds-write-end-in-Some g c =
    let on = done_on _ _ _ _ _ _ _ _ c.next_step.ensures.onward c.in-Some.is in
    sym (length-take-le c.in-Some.bytes c.next_step.new.page (omega (arith, on.1)))

pub loop-bytes-smaller : goal.loop-bytes-smaller
loop-bytes-smaller g c = (done_on _ _ _ _ _ _ _ _ c.next_step.ensures.onward c.in-Some.is).0

pub loop-bytes-preserved : goal.loop-bytes-preserved
loop-bytes-preserved g c =
    let step = c.next_step.ensures in
    let inv = c.loop-bytes.invariant in
    record {
      fills = omega arith;
      page = omega arith;
      leads = sym (done-leads _ _ _ _ _ _ _ _ _ step.sheet c.in-Some.is) ∙ inv.leads;
      kept = λ is. step.fills (inv.kept is);
      written = λ is.
          let (bytes, added, left) = inv.written is in
          let told = c.in_ok-write.ensures.written in (
            bytes ++ take c.in-Some.bytes c.next_step.new.page,
            Appends-trans _ _ _ _ _ added told,
            left ∙ ap (λ rest. bytes ++ rest) (shown_on _ _ _ _ _ _ _ _ _ _ step.shown (inv.kept is) _ c.in-Some.is) ∙ sym (append_assoc bytes _ _),
          );
    }

pub returns-clause-sheet : goal.returns-clause-sheet
returns-clause-sheet g c =
    sym (used-leads _ _ _ _ _ _ _ _ c.next_step.ensures.sheet c.in_default.is) ∙ c.loop-bytes.invariant.leads

pub returns-clause-written : goal.returns-clause-written
returns-clause-written g c = λ is.
    let inv = c.loop-bytes.invariant in
    let (bytes, added, left) = inv.written is in
    let none = shown_up _ _ _ _ _ _ _ _ _ _ c.next_step.ensures.shown (inv.kept is) c.in_default.is in
    subst (Appends _ _) (sym (left ∙ ap (λ rest. bytes ++ rest) none ∙ append-nil bytes)) added
