-- The numbers of refusals, for code: "A refusal returns its number and a position".
use Rattle.std.specs.Prelude.{ℕ, List, ◌++◌, decimal}
use Rattle.format.specs.Bytes.{bytes}
use Rattle.format.specs.declared.codes.Code.{Code}
use Rattle.format.specs.declared.codes.Refusal.{Refusal}

-- the row of the paper's table that a code names
abbrev pub number_of : Code → ℕ
number_of Code.SourceTooLong = 1
number_of Code.TextUnfit = 2
number_of Code.TagUnknown = 3
number_of Code.KeyNotAllowed = 4
number_of Code.OutOfRange = 5
number_of Code.NothingNamed = 6
number_of Code.TableFull = 7
number_of Code.TooDeep = 8
number_of Code.KeyRepeated = 9
number_of Code.BytesBehind = 10
number_of Code.NoArray = 11
number_of Code.NoPlace = 12
number_of Code.PairUnfit = 13
number_of Code.OutputTooShort = 14

-- a refusal as the programs print it, `refused 2 at 0`; `decimal` is what `{}` writes for a number
abbrev pub refusal_text : Refusal → List ℕ
refusal_text r = bytes "refused " ++ decimal (number_of r.code) ++ bytes " at " ++ decimal r.at
