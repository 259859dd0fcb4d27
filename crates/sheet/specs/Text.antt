-- Bytes as text: the letters and words of RULES are written as text below and are bytes here. Assumes nothing.
use Rattle.std.specs.Prelude.{List, [], ◌∷◌, ℕ}
use Prim.Native.Char.{code}
use Prim.Native.String.{String, [] as nothing, ◌∷◌ as ◌then◌}

-- the bytes of a text in ASCII
abbrev pub text : String → List ℕ
text nothing = []
text (c then cs) = code c ∷ text cs

abbrev pub comma : ℕ
comma = code ","

abbrev pub lf : ℕ
lf = code "\n"

abbrev pub cr : ℕ
cr = code "\r"
