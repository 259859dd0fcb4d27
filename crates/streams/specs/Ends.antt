-- The status of a program that ends before its input does. Assumes nothing.
use Rattle.std.specs.Prelude.{ℕ}
use Rattle.streams.specs.declared.Lost.{Lost}

-- 0 where it is said what is lost, and a shell's status of a program that SIGPIPE ends (128 + 13) where nobody reads the output any more
unfoldable pub status : Lost → ℕ
status Lost.Input = 0
status Lost.Output = 0
status Lost.Reader = 141
