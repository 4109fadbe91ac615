-- "Plans on either side": what worked cases show of the definitions.
use Rattle.std.specs.Prelude.{List, [], ◌∷◌, ◌++◌, Bool, true, false, ◌&&◌, ℕ, zero, suc, ◌-◌, eqb, replicate}
use Rattle.decimal.specs.Digits.{decimal, decimal_in}
use Rattle.format.specs.Bytes.{byte, bytes, same_bytes}
use Rattle.format.specs.Tree.{nodes, ordinals}
use Rattle.format.specs.Syntax.{Value, own, write, print}
use Rattle.format.specs.Limits.{source_limit, Terms, is_float}
use Rattle.format.specs.Answer.{Answer, ok, refused}
use Rattle.format.specs.Read.{digits, number, bool_text, int_text, float_text, quoted_text, scalar_text, count_text, head_text, named_text, key_text}
use Rattle.format.specs.Read.{read_key, read_branch, read_reference, read_scalar, read_body, read_in, read}
use Rattle.format.specs.Table.{flat, table_of}
use Rattle.format.specs.Shows.{node_at}
use Rattle.format.specs.Canonical.{canonical}
use Rattle.format.specs.Edit.{insert}
use Rattle.format.specs.Writing.{key_of, scalar_of, insertion_of, insert_bytes}

pub data Outcome : Type 0 where
  refusal : (code at : ℕ) → Outcome
  accepted : (nodes ordinals : ℕ) → Outcome
  table : List ℕ → Outcome
  resolves : (node target : ℕ) → Outcome
  canonical_text : List ℕ → Outcome
  insertion : (node place : ℕ) → (key value : List ℕ) → Answer (List ℕ) → Outcome

-- a plan and a table's room, and what reading them shows; or inserting into the plan, with an output as long as a plan may be
pub record Case : Type 0 where
  pub source : List ℕ
  pub terms : Terms
  pub outcome : Outcome

-- with the room of paper 01's program, "a table of 8,190 words", or another
infix 10 ◌⇒◌
abbrev pub ◌⇒◌ : List ℕ → Outcome → Case
s ⇒ o = record { source = s; terms = record { capacity = 1365 }; outcome = o }

abbrev pub within : (capacity : ℕ) → Case → Case
within n c = record { source = c.source; terms = record { capacity = n }; outcome = c.outcome }

abbrev pub same_answer : Answer (List ℕ) → Answer (List ℕ) → Bool
same_answer (ok s) (ok t) = same_bytes s t
same_answer (ok s) (refused n p) = false
same_answer (refused n p) (ok t) = false
same_answer (refused n p) (refused n' p') = eqb n n' && eqb p p'

-- the answer of reading, and that of inserting
unfoldable pub shown : Outcome → Answer Value → (insert : (node place : ℕ) → (key value : List ℕ) → Answer (List ℕ)) → Bool
shown (refusal n p) (ok v) i = false
shown (refusal n p) (refused n' p') i = eqb n n' && eqb p p'
shown (accepted n m) (ok v) i = eqb n (nodes v) && eqb m (ordinals own v)
shown (accepted n m) (refused n' p) i = false
shown (table ws) (ok v) i = same_bytes ws (flat (table_of v))
shown (table ws) (refused n p) i = false
shown (resolves i j) (ok v) f = eqb j (node_at (table_of v) i).link
shown (resolves i j) (refused n p) f = false
shown (canonical_text t) (ok v) i = same_bytes t (print (canonical v))
shown (canonical_text t) (refused n p) i = false
shown (insertion node place key value a) r i = same_answer a (i node place key value)

-- every case of a table, with all that it takes to compute it open
unfoldable pub hold : List Case → Bool
unfolding shown table_of canonical insert key_of scalar_of insertion_of insert_bytes read_in read_body read_scalar read_reference read_branch read_key key_text named_text
    head_text count_text scalar_text quoted_text float_text int_text bool_text number digits is_float decimal decimal_in write
hold [] = true
hold (c ∷ cs) = shown c.outcome (read c.terms c.source) (insert_bytes c.terms source_limit c.source) && hold cs

-- "Those marked * form the small proved set"
abbrev pub starred : List Case
starred =
    (bytes "" ⇒ refusal 2 0)
    ∷ (bytes "N;;" ⇒ refusal 10 2)
    ∷ (bytes "b:2;" ⇒ refusal 2 0)
    ∷ (bytes "i:-0;" ⇒ table (105 ∷ 1 ∷ 0 ∷ 0 ∷ 0 ∷ 1 ∷ []))
    ∷ (bytes "i:-0;" ⇒ canonical_text (bytes "i:0;"))
    ∷ (bytes "s:2:\"a\";" ⇒ refusal 2 0)
    ∷ (bytes "a:2:{i:0;N;}" ⇒ refusal 4 11)
    ∷ (bytes "a:2:{i:5;N;i:05;N;}" ⇒ refusal 9 11)
    ∷ (bytes "R:1;" ⇒ refusal 6 0)
    ∷ (bytes "r:1;" ⇒ refusal 6 0)
    ∷ (bytes "a:1:{i:0;R:1;}" ⇒ accepted 3 1)
    ∷ (bytes "a:1:{i:0;R:2;}" ⇒ refusal 6 9)
    ∷ (bytes "a:1:{i:0;r:2;}" ⇒ refusal 6 9)
    ∷ (bytes "a:4:{i:0;i:7;i:1;R:2;i:2;i:9;i:3;R:3;}" ⇒ resolves 8 6)
    ∷ (bytes "a:4:{i:0;i:7;i:1;r:2;i:2;i:9;i:3;R:3;}" ⇒ resolves 8 4)
    ∷ (bytes "a:3:{i:0;d:1.5;i:1;d:2.5;i:2;R:3;}" ⇒ insertion 0 1 (bytes "i:59;") (bytes "d:2;") (ok (bytes "a:4:{i:0;d:1.5;i:59;d:2;i:1;d:2.5;i:2;R:4;}")))
    ∷ (bytes "a:3:{i:0;d:1.5;i:1;d:2.5;i:2;R:3;}" ⇒ insertion 0 3 (bytes "i:59;") (bytes "d:2;") (ok (bytes "a:4:{i:0;d:1.5;i:1;d:2.5;i:2;R:3;i:59;d:2;}")))
    ∷ []

-- the rest of that section but for depth, and its worked tables
abbrev pub unstarred : List Case
unstarred =
    (bytes "a:1:{i:0;N;}" ⇒ table (97 ∷ 1 ∷ 0 ∷ 0 ∷ 1 ∷ 3 ∷ 105 ∷ 0 ∷ 0 ∷ 0 ∷ 0 ∷ 2 ∷ 78 ∷ 2 ∷ 0 ∷ 0 ∷ 0 ∷ 3 ∷ []))
    ∷ (bytes "s:5:\"basin\";" ⇒ table (115 ∷ 1 ∷ 5 ∷ 5 ∷ 0 ∷ 1 ∷ []))
    ∷ (bytes "i:-1;" ⇒ table (105 ∷ 1 ∷ 18446744073709551615 ∷ 0 ∷ 0 ∷ 1 ∷ []))
    ∷ (bytes "C:1:\"X\":0:{}" ⇒ refusal 3 0)
    ∷ (bytes "i:9223372036854775807;" ⇒ accepted 1 1)
    ∷ (bytes "i:9223372036854775808;" ⇒ refusal 5 0)
    ∷ (bytes "d:5.;" ⇒ accepted 1 1)
    ∷ (bytes "d:.;" ⇒ refusal 2 0)
    ∷ (bytes "a:0:{i:0;N;}" ⇒ refusal 2 0)
    ∷ (bytes "a:65536:{}" ⇒ refusal 4 9)
    ∷ (bytes "a:65537:{}" ⇒ refusal 5 0)
    ∷ (bytes "O:3:\"Day\":4:{s:3:\"air\";i:40;s:4:\"self\";r:1;s:4:\"open\";b:1;s:4:\"copy\";R:4;}" ⇒ accepted 9 4)
    ∷ (bytes "O:3:\"Day\":4:{s:3:\"air\";i:40;s:4:\"self\";r:1;s:4:\"open\";b:1;s:4:\"copy\";R:4;}" ⇒ resolves 4 0)
    ∷ (bytes "O:3:\"Day\":4:{s:3:\"air\";i:40;s:4:\"self\";r:1;s:4:\"open\";b:1;s:4:\"copy\";R:4;}" ⇒ resolves 8 6)
    ∷ []

-- limits, positions and the order of refusals where those leave them open (docs/DECISIONS.md has the readings)
abbrev pub edges : List Case
edges =
    (bytes "i:-9223372036854775808;" ⇒ table (105 ∷ 1 ∷ 9223372036854775808 ∷ 0 ∷ 0 ∷ 1 ∷ []))
    ∷ (bytes "i:-9223372036854775809;" ⇒ refusal 5 0)
    ∷ (bytes "i:+9223372036854775808;" ⇒ refusal 5 0)
    ∷ (bytes "a:1:{i:0;s:65537" ⇒ refusal 5 9)
    ∷ (bytes "a:1:{i:0;s:65536" ⇒ refusal 2 9)
    ∷ (bytes "a:1:{" ⇒ refusal 2 5)
    ∷ (bytes "a:1:{i:0;" ⇒ refusal 2 9)
    ∷ (bytes "a:1:{i:0;a:1:{i:0;N;" ⇒ refusal 2 9)
    ∷ (bytes "a:1:{i:0;}" ⇒ refusal 3 9)
    ∷ (bytes "O:1:\"A\":1:{i:0;N;}" ⇒ refusal 4 11)
    ∷ (bytes "R:1" ⇒ refusal 2 0)
    ∷ (bytes "R:0;" ⇒ refusal 6 0)
    ∷ (bytes "a:2:{i:0;N;i:0" ⇒ refusal 2 11)
    ∷ (bytes "a:2:{i:0;N;i:-0;x" ⇒ refusal 9 11)
    ∷ (bytes "b:01;" ⇒ refusal 2 0)
    ∷ (bytes "b:0;" ⇒ table (98 ∷ 1 ∷ 0 ∷ 0 ∷ 0 ∷ 1 ∷ []))
    ∷ (bytes "b:1;" ⇒ table (98 ∷ 1 ∷ 1 ∷ 0 ∷ 0 ∷ 1 ∷ []))
    ∷ (bytes "i:;" ⇒ refusal 2 0)
    ∷ (bytes "s:9:\"ab\";" ⇒ refusal 2 0)
    ∷ (bytes "d:INF;" ⇒ accepted 1 1)
    ∷ (bytes "d:-INF;" ⇒ accepted 1 1)
    ∷ (bytes "d:NAN;" ⇒ accepted 1 1)
    ∷ (bytes "d:1e5;" ⇒ accepted 1 1)
    ∷ (bytes "d:+INF;" ⇒ refusal 2 0)
    ∷ (bytes "d:-.5E+07;" ⇒ table (100 ∷ 1 ∷ 2 ∷ 7 ∷ 0 ∷ 1 ∷ []))
    ∷ (bytes "d:1e;" ⇒ refusal 2 0)
    ∷ (bytes "s:0:\"\";" ⇒ table (115 ∷ 1 ∷ 5 ∷ 0 ∷ 0 ∷ 1 ∷ []))
    ∷ (bytes "s:3:\"a\"b\";" ⇒ table (115 ∷ 1 ∷ 5 ∷ 3 ∷ 0 ∷ 1 ∷ []))
    ∷ (bytes "a:1:{s:1:\"a\";s:01:\"a\";}" ⇒ table (97 ∷ 1 ∷ 0 ∷ 0 ∷ 1 ∷ 3 ∷ 115 ∷ 0 ∷ 10 ∷ 1 ∷ 0 ∷ 2 ∷ 115 ∷ 2 ∷ 19 ∷ 1 ∷ 0 ∷ 3 ∷ []))
    ∷ (bytes "a:02:{i:+07;d:01.50;s:02:\"ab\";O:1:\"A\":0:{}}" ⇒ canonical_text (bytes "a:2:{i:7;d:01.50;s:2:\"ab\";O:1:\"A\":0:{}}"))
    ∷ within 0 (bytes "x" ⇒ refusal 3 0)
    ∷ within 0 (bytes "i:x" ⇒ refusal 7 0)
    ∷ within 1 (bytes "a:1:{N;" ⇒ refusal 4 5)
    ∷ within 1 (bytes "a:1:{i:0;N;}" ⇒ refusal 7 5)
    ∷ within 2 (bytes "a:1:{i:0;N;}" ⇒ refusal 7 9)
    ∷ within 3 (bytes "a:1:{i:0;N;}" ⇒ accepted 3 2)
    ∷ within 3 (bytes "a:2:{i:0;N;i:1;R:2;}" ⇒ refusal 7 11)
    ∷ within 4 (bytes "a:2:{i:0;N;i:1;R:2;}" ⇒ refusal 7 15)
    ∷ within 5 (bytes "a:2:{i:0;N;i:1;R:2;}"
    ⇒ table (97 ∷ 1 ∷ 0 ∷ 0 ∷ 2 ∷ 5 ∷ 105 ∷ 0 ∷ 0 ∷ 0 ∷ 0 ∷ 2 ∷ 78 ∷ 2 ∷ 0 ∷ 0 ∷ 0 ∷ 3 ∷ 105 ∷ 0 ∷ 1 ∷ 0 ∷ 0 ∷ 4 ∷ 82 ∷ 0 ∷ 2 ∷ 0 ∷ 2 ∷ 5 ∷ []))
    ∷ []

-- inserting: what is kept and what is rewritten, and the order of refusals
abbrev pub insertions : List Case
insertions =
    (bytes "a:02:{i:0;a:01:{i:0;r:01;}i:1;R:002;}"
    ⇒ insertion 2 0 (bytes "s:1:\"x\";") (bytes "N;") (ok (bytes "a:02:{i:0;a:2:{s:1:\"x\";N;i:0;r:01;}i:1;R:002;}")))
    ∷ (bytes "a:02:{i:0;a:01:{i:0;r:01;}i:1;R:03;}" ⇒ insertion 2 0 (bytes "i:+05;") (bytes "b:1;") (ok (bytes "a:02:{i:0;a:2:{i:+05;b:1;i:0;r:01;}i:1;R:4;}")))
    ∷ (bytes "a:02:{i:0;a:01:{i:0;r:01;}i:1;R:03;}" ⇒ insertion 2 1 (bytes "i:5;") (bytes "b:1;") (ok (bytes "a:02:{i:0;a:2:{i:0;r:01;i:5;b:1;}i:1;R:03;}")))
    ∷ (bytes "N;" ⇒ insertion 0 9 (bytes "") (bytes "") (refused 11 0))
    ∷ (bytes "x" ⇒ insertion 0 9 (bytes "") (bytes "") (refused 3 0))
    ∷ (bytes "a:1:{i:0;N;}" ⇒ insertion 1 0 (bytes "i:1;") (bytes "N;") (refused 11 0))
    ∷ (bytes "a:1:{i:0;N;}" ⇒ insertion 3 0 (bytes "i:1;") (bytes "N;") (refused 11 0))
    ∷ (bytes "O:1:\"A\":0:{}" ⇒ insertion 0 0 (bytes "i:1;") (bytes "N;") (refused 11 0))
    ∷ (bytes "a:1:{i:0;N;}" ⇒ insertion 0 2 (bytes "d:1;") (bytes "N;") (refused 12 0))
    ∷ (bytes "a:1:{i:0;N;}" ⇒ insertion 0 1 (bytes "d:1;") (bytes "N;") (refused 13 0))
    ∷ (bytes "a:1:{i:0;N;}" ⇒ insertion 0 1 (bytes "i:0;") (bytes "N;N;") (refused 13 0))
    ∷ (bytes "a:1:{i:0;N;}" ⇒ insertion 0 1 (bytes "i:1;") (bytes "a:0:{}") (refused 13 0))
    ∷ (bytes "a:1:{i:0;N;}" ⇒ insertion 0 1 (bytes "i:1;") (bytes "R:1;") (refused 13 0))
    ∷ (bytes "a:1:{i:0;N;}" ⇒ insertion 0 1 (bytes "i:1;x") (bytes "N;") (refused 13 0))
    ∷ within 3 (bytes "a:1:{i:0;N;}" ⇒ insertion 0 1 (bytes "i:-00;") (bytes "N;") (refused 9 0))
    ∷ within 4 (bytes "a:1:{i:0;N;}" ⇒ insertion 0 1 (bytes "s:1:\"0\";") (bytes "N;") (refused 7 0))
    ∷ within 5 (bytes "a:1:{i:0;N;}" ⇒ insertion 0 1 (bytes "s:1:\"0\";") (bytes "N;") (ok (bytes "a:2:{i:0;N;s:1:\"0\";N;}")))
    ∷ []

-- paper 02, L1: "Plans from an old tape have `s:+5:"basin";`."
abbrev pub pluses : List Case
pluses =
    (bytes "s:+5:\"basin\";" ⇒ table (115 ∷ 1 ∷ 6 ∷ 5 ∷ 0 ∷ 1 ∷ []))
    ∷ (bytes "s:+5:\"basin\";" ⇒ canonical_text (bytes "s:5:\"basin\";"))
    ∷ (bytes "s:-5:\"basin\";" ⇒ refusal 2 0)
    ∷ (bytes "s:+:\"\";" ⇒ refusal 2 0)
    ∷ (bytes "s:++1:\"a\";" ⇒ refusal 2 0)
    ∷ (bytes "s:+-1:\"a\";" ⇒ refusal 2 0)
    ∷ (bytes "a:+65537:{}" ⇒ refusal 5 0)
    ∷ (bytes "b:+1;" ⇒ refusal 2 0)
    ∷ (bytes "i:++5;" ⇒ refusal 2 0)
    ∷ (bytes "O:+1:\"X\":+1:{s:+1:\"k\";r:+1;}"
    ⇒ table (79 ∷ 1 ∷ 6 ∷ 1 ∷ 1 ∷ 3 ∷ 115 ∷ 0 ∷ 19 ∷ 1 ∷ 0 ∷ 2 ∷ 114 ∷ 2 ∷ 1 ∷ 0 ∷ 0 ∷ 3 ∷ []))
    ∷ (bytes "O:+1:\"X\":+1:{s:+1:\"k\";r:+1;}" ⇒ canonical_text (bytes "O:1:\"X\":1:{s:1:\"k\";r:1;}"))
    ∷ (bytes "a:+10:{i:0;N;i:1;N;i:2;N;i:3;N;i:4;N;i:5;N;i:6;N;i:7;N;i:8;R:+01;i:9;R:+9;}"
    ⇒ insertion 0 0 (bytes "s:+1:\"k\";") (bytes "s:+2:\"ab\";")
    (ok (bytes "a:11:{s:+1:\"k\";s:+2:\"ab\";i:0;N;i:1;N;i:2;N;i:3;N;i:4;N;i:5;N;i:6;N;i:7;N;i:8;R:+01;i:9;R:10;}")))
    ∷ []

-- arrays, so many deep, around a text
abbrev pub deep : ℕ → (inside : List ℕ) → List ℕ
deep zero s = s
deep (suc n) s = bytes "a:1:{i:0;" ++ (deep n s ++ bytes "}")

abbrev pub nested : ℕ → List ℕ
nested n = deep (n - 1) (bytes "a:0:{}")

-- the same for plans that are long or deep
abbrev pub large : List Case
large =
    (nested 64 ⇒ accepted 127 64)
    ∷ (nested 65 ⇒ refusal 8 576)
    ∷ (deep 64 (bytes "x") ⇒ refusal 3 576)
    ∷ within 128 (nested 65 ⇒ refusal 8 576)
    ∷ within 127 (nested 65 ⇒ refusal 7 572)
    ∷ within 127 (nested 64 ⇒ insertion 126 0 (bytes "i:0;") (bytes "N;") (refused 8 0))
    ∷ within 127 (nested 64 ⇒ insertion 124 0 (bytes "i:1;") (bytes "N;") (refused 7 0))
    ∷ (replicate 65537 (byte "N") ⇒ refusal 1 0)
    ∷ (bytes "i:" ++ (replicate 65533 (byte "0") ++ bytes ";") ⇒ accepted 1 1)
    ∷ []
