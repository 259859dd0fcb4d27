-- What the answer of a call that writes or reads a step tells: its number, the refusal or 0, and each of its values, where the call is refused and where it
-- is not, by the definitions at the end of Calls.antt. Order: a step written; a step read. Assumes nothing.
use Rattle.std.specs.Prelude.{◌≡◌, Bool, cond, List, ℕ, length}
use Rattle.network.specs.Calls.{unless_refused, Answer}
use Rattle.waveform.specs.declared.StepRead.{StepRead}
use Rattle.waveform.specs.Reading.{read_step}
use Rattle.waveform.specs.Calls.{written_step, write_refusal, read_refusal}
use Rattle.waveform.specs.Calls.{written_number, written_length, read_number, read_time, read_named, read_headers}

pub record WriteTells (first : Bool) (w list page : List ℕ) (r : Answer ℕ) : Type 0 where
  pub number : written_number r ≡ write_refusal first w list page
  pub bytes : written_length r ≡ unless_refused (write_refusal first w list page) (length (written_step first w list)) 0

pub record ReadTells (bytes list : List ℕ) (r : Answer StepRead) : Type 0 where
  pub number : read_number r ≡ read_refusal bytes list
  pub header : read_headers r ≡ unless_refused (read_refusal bytes list) (cond (read_step bytes).header 1 0) 0
  pub time : read_time r ≡ unless_refused (read_refusal bytes list) (read_step bytes).time 0
  pub named : read_named r ≡ unless_refused (read_refusal bytes list) (length (read_step bytes).changes) 0
