-- What the answer of a call that writes or reads a step tells: its number, the refusal or 0, and each of its values, where the call is refused and where it
-- is not, by the definitions at the end of Calls.antt. Order: a step written; a step read. Assumes nothing.
use Rattle.std.specs.Prelude.{◌≡◌, refl, Bool, true, false, cond, List, ℕ, length, Ok}
use Rattle.network.proofs.Answers.{by-refusal, told-number}
use Rattle.waveform.specs.declared.StepRead.{StepRead}
use Rattle.waveform.specs.Reading.{read_step}
use Rattle.waveform.specs.Calls.{write_refusal, write_answer, read_refusal, step_told, read_answer}
use Rattle.waveform.specs.Calls.{written_number, written_length, read_number, read_time, read_named, read_headers}
use Rattle.waveform.specs.StepAnswers.{WriteTells, ReadTells}

pub write-tells : (first : Bool) (w list page : List ℕ) → WriteTells first w list page (write_answer first w list page)
unfolding write_answer written_number written_length
write-tells first w list page =
    record {
      number = told-number written_number (write_refusal first w list page) refl refl;
      bytes = by-refusal written_length (write_refusal first w list page) refl refl;
    }

pub read-tells : (bytes list : List ℕ) → ReadTells bytes list (read_answer bytes list)
unfolding read_answer step_told read_number read_headers read_time read_named
read-tells bytes list =
    record {
      number = told-number read_number (read_refusal bytes list) refl refl;
      header = by-refusal read_headers (read_refusal bytes list) (header (read_step bytes).header) refl;
      time = by-refusal read_time (read_refusal bytes list) (time (read_step bytes).header) refl;
      named = by-refusal read_named (read_refusal bytes list) (named (read_step bytes).header) refl;
    }
  where
    answer : Bool → StepRead
    answer b = cond b (StepRead.Header (read_step bytes).time (length (read_step bytes).changes)) (StepRead.Later (read_step bytes).time (length (read_step bytes).changes))

    header : (b : Bool) → read_headers (Ok (answer b)) ≡ cond b 1 0
    header true = refl
    header false = refl

    time : (b : Bool) → read_time (Ok (answer b)) ≡ (read_step bytes).time
    time true = refl
    time false = refl

    named : (b : Bool) → read_named (Ok (answer b)) ≡ length (read_step bytes).changes
    named true = refl
    named false = refl
