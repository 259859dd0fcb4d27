-- R240 to R256, the text of a sheet, as definitions: the input's lines, the command of a line, the bytes of every line that is printed. Cutting.antt says
-- how the code cuts the input; Cuts.antt has the theorem on the lines; Fields.antt, Numerals.antt, Lengths.antt and Puts.antt have laws for the crates
-- above.
pub mod Text
pub mod Lines
pub mod Commands
pub mod Output
pub mod Examples
pub mod Cutting
pub mod Cuts
pub mod Fields
pub mod Numerals
pub mod Puts
