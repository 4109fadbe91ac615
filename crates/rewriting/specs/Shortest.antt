-- A token in canonical spelling, by what its text tells: numbers shortest, all else copied.
use Rattle.std.specs.Prelude.{◌≡◌, List, ◌++◌, true, false, ◌||◌, ℕ, ◌+◌, ◌-◌, ◌≤◌, ◌<◌, eqb, length, get_or}
use Rattle.std.proofs.Math.Seq.{slice}
use Rattle.decimal.specs.Digits.{decimal}
use Rattle.format.specs.Bytes.{byte}
use Rattle.format.specs.Kind.{Kind, tag}
use Rattle.scanner.specs.declared.Text.{Text}
use Rattle.rewriting.specs.declared.output.Output.{Output}
use Rattle.rewriting.specs.Output.{signed_digits, Appends}

-- the first two bytes of a number or an integer tell that it is in shortest form: a digit other than 0; a digit and no more; a minus and a digit other than 0
pub data ShortestFront (first second : ℕ) : Type 0 where
  digit : byte "1" ≤ first → ShortestFront first second
  alone : byte "9" < second → ShortestFront first second
  minus : first ≡ byte "-" → byte "1" ≤ second → ShortestFront first second

-- a tag and its colon, a number in shortest form, and the bytes from one index up to another
abbrev pub numbered_text : List ℕ → (at n from to : ℕ) → List ℕ
numbered_text s at n from to = slice at (at + 2) s ++ (decimal n ++ slice from to s)

-- a tag and its colon, the shortest text of an integer's word, and the last byte
abbrev pub shortest_signed : List ℕ → (at word next : ℕ) → List ℕ
shortest_signed s at word next = slice at (at + 2) s ++ (signed_digits word ++ slice (next - 1) next s)

-- a class name's length, the name in its quotes with both colons, the count, and the opening brace
abbrev pub object_head_text : List ℕ → (at : ℕ) → Text → List ℕ
object_head_text s at x = numbered_text s at x.size (x.content - 2) (x.content + x.size + 2) ++ (decimal x.link ++ slice (x.next - 2) x.next s)

-- by its tag
abbrev pub shortest_by : (tag : ℕ) → List ℕ → (at : ℕ) → Text → List ℕ
shortest_by b s at x = elim (eqb b (tag Kind.int)) [
  | true ↦ shortest_signed s at x.content x.next
  | false ↦ elim (eqb b (tag Kind.string)) [
    | true ↦ numbered_text s at x.size (x.content - 2) x.next
    | false ↦ elim (eqb b (tag Kind.array)) [
      | true ↦ numbered_text s at x.link (x.next - 2) x.next
      | false ↦ elim (eqb b (tag Kind.object)) [
        | true ↦ object_head_text s at x
        | false ↦ elim (eqb b (tag Kind.object_reference) || eqb b (tag Kind.variable_reference)) [
          | true ↦ numbered_text s at x.content (x.next - 1) x.next
          | false ↦ slice at x.next s
        ]
      ]
    ]
  ]
]

unfoldable pub shortest_text : List ℕ → (at : ℕ) → Text → List ℕ
shortest_text s at x = shortest_by (get_or s at 0) s at x

-- ---- what is copied stands in the source

-- a text between quotes, behind a tag, a colon, a number, a colon and a quote, and before a quote and one byte more
pub record QuotedBounds (at : ℕ) (x : Text) : Type 0 where
  pub from : at + 4 ≤ x.content
  pub to : x.content + x.size + 2 ≤ x.next

pub record Bounds (s : List ℕ) (at : ℕ) (x : Text) : Type 0 where
  pub on : at < x.next
  pub inside : x.next ≤ length s
  pub more : (get_or s at 0 ≡ byte "}" → ⊥) → at + 2 ≤ x.next
  pub int : get_or s at 0 ≡ tag Kind.int → at + 4 ≤ x.next
  pub string : get_or s at 0 ≡ tag Kind.string → QuotedBounds at x
  pub object : get_or s at 0 ≡ tag Kind.object → QuotedBounds at x

-- a token's new text, of which its numbers are written: its tag and its colon, these, and the bytes that stay from an index on
pub record Respells (all s : List ℕ) (at next : ℕ) (o : Output) (kept : ℕ) (o' : Output) : Type 0 where
  pub numbers : List ℕ
  pub wrote : Appends numbers o o'
  pub split : all ≡ slice at (at + 2) s ++ (numbers ++ slice kept next s)
  pub inside : kept ≤ next
