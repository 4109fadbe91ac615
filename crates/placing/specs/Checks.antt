-- Steps that only pass or fail: 9, 8 and 7.
use Rattle.std.specs.Prelude.{Result, Ok, Err}
use Rattle.format.specs.Answer.{Answer, ok, refused}
use Rattle.format.specs.declared.codes.Code.{Code}
use Rattle.format.specs.Codes.{number_of}

-- the paper's number and values for each case: "9 (new key present), 8 (array at depth 64), 7 (two more nodes) … here 9, 8 and 7 have position 0"
abbrev pub check_answer : Result (Unit {0}) Code → Answer (Unit {0})
check_answer (Ok u) = ok u
check_answer (Err code) = refused (number_of code) 0
