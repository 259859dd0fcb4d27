-- Laws of bytes that stand at the start of others. Order: too few bytes; what stands behind; byte by byte; the bytes themselves. Assumes nothing.
use Rattle.std.specs.Prelude.{◌≡◌, List}
use Prim.Native.Nat.{ℕ, ◌+◌, ◌≤◌}
use Rattle.std.proofs.Math.ListN.{length, drop}
use Rattle.waveform.specs.Reading.{starts_with}

-- i bytes are the same so far
pub record SameTo (xs bs : List ℕ) (at i : ℕ) : Type 0 where
  pub within : i ≤ length xs
  pub left : starts_with xs (drop at bs) ≡ starts_with (drop i xs) (drop (at + i) bs)
