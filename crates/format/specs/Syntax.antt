-- "Grammar, byte for byte": a plan's syntax, with each choice of spelling kept, and the bytes that it is written with.
use Rattle.std.specs.Prelude.{List, [], ◌∷◌, ◌++◌, Bool, true, false, ℕ, length}
use Rattle.decimal.specs.Digits.{spelled}
use Rattle.format.specs.Bytes.{byte}
use Rattle.format.specs.Kind.{Kind, tag, has_ordinal}
use Rattle.format.specs.Tree.{Tree, leaf, ref, branch, Pairs, none, pair, count}

-- What keys, scalars and containers are, over what integers and strings are: texts in the syntax, plain data in the meaning.
pub data KeyOf (I S : Type 0) : Type 0 where
  int_key : I → KeyOf I S
  string_key : S → KeyOf I S

pub data ScalarOf (I S : Type 0) : Type 0 where
  null : ScalarOf I S
  bool : Bool → ScalarOf I S
  int : I → ScalarOf I S
  float : List ℕ → ScalarOf I S
  string : S → ScalarOf I S

-- an object has its class name
pub data ContainerOf (S : Type 0) : Type 0 where
  array : ContainerOf S
  object : S → ContainerOf S

module _ {I S I' S' : Type 0} (f : I → I') (g : S → S') where
  abbrev pub map_key : KeyOf I S → KeyOf I' S'
  map_key (int_key x) = int_key (f x)
  map_key (string_key t) = string_key (g t)

  abbrev pub map_scalar : ScalarOf I S → ScalarOf I' S'
  map_scalar null = null
  map_scalar (bool b) = bool b
  map_scalar (int x) = int (f x)
  map_scalar (float t) = float t
  map_scalar (string t) = string (g t)

abbrev pub map_container : {S S' : Type 0} → (S → S') → ContainerOf S → ContainerOf S'
map_container g array = array
map_container g (object t) = object (g t)

-- How a *number* is spelled: "one leading `+`" or none (paper 02, L1), and the zeros before its shortest digits. "Leading zeros are allowed."
pub record Spelling : Type 0 where
  pub plus : Bool
  pub zeros : ℕ

pub data Sign : Type 0 where
  unsigned plus minus : Sign

-- an integer as it is spelled
pub record Literal : Type 0 where
  pub sign : Sign
  pub zeros : ℕ
  pub magnitude : ℕ

-- a text between quotes, and how its length is spelled
pub record Quoted : Type 0 where
  pub spelling : Spelling
  pub text : List ℕ

abbrev pub Key : Type 0
Key = KeyOf Literal Quoted

abbrev pub Scalar : Type 0
Scalar = ScalarOf Literal Quoted

abbrev pub Container : Type 0
Container = ContainerOf Quoted

-- a container's head: what it is, and how its count is spelled
pub record Head : Type 0 where
  pub container : Container
  pub spelling : Spelling

-- an object reference is an r, a variable reference an R
pub data RefKind : Type 0 where
  object_ref variable_ref : RefKind

-- a reference: its kind, the ordinal that it names, and how that is spelled
pub record Reference : Type 0 where
  pub kind : RefKind
  pub spelling : Spelling
  pub named : ℕ

abbrev pub Value : Type 0
Value = Tree Key Scalar Head Reference

abbrev pub Values : Type 0
Values = Pairs Key Scalar Head Reference

abbrev pub ref_kind : RefKind → Kind
ref_kind object_ref = Kind.object_reference
ref_kind variable_ref = Kind.variable_reference

-- whether a reference takes an ordinal of its own
abbrev pub own : Reference → Bool
own r = has_ordinal (tag (ref_kind r.kind))

-- a *number*: "each *number* in 01's grammar may have one leading `+`" (paper 02, L1)
abbrev pub plus_text : Bool → List ℕ
plus_text true = byte "+" ∷ []
plus_text false = []

abbrev pub number_text : Spelling → ℕ → List ℕ
number_text w n = plus_text w.plus ++ spelled w.zeros n

-- The bytes of each part, put before the bytes `r` that follow it.
abbrev pub write_number : Spelling → ℕ → List ℕ → List ℕ
write_number w n r = number_text w n ++ r

abbrev pub write_sign : Sign → List ℕ → List ℕ
write_sign unsigned r = r
write_sign plus r = byte "+" ∷ r
write_sign minus r = byte "-" ∷ r

-- from the number on to the closing quote
abbrev pub write_quoted : Quoted → List ℕ → List ℕ
write_quoted q r = write_number q.spelling (length q.text) (byte ":" ∷ byte "\"" ∷ q.text ++ (byte "\"" ∷ r))

-- i: "`i:`, optional `+` or `-`, digits, `;`"
abbrev pub write_int : Literal → List ℕ → List ℕ
write_int x r = tag Kind.int ∷ byte ":" ∷ write_sign x.sign (spelled x.zeros x.magnitude ++ (byte ";" ∷ r))

-- s: "`s:`, number, `:"`, that many bytes of any kind, `";`"
abbrev pub write_string : Quoted → List ℕ → List ℕ
write_string q r = tag Kind.string ∷ byte ":" ∷ write_quoted q (byte ";" ∷ r)

abbrev pub write_key : Key → List ℕ → List ℕ
write_key (int_key x) r = write_int x r
write_key (string_key q) r = write_string q r

abbrev pub bit : Bool → ℕ
bit false = byte "0"
bit true = byte "1"

-- N: "`N;`". b: "`b:0;` or `b:1;`". d: "`d:`, float text, `;`"
abbrev pub write_scalar : Scalar → List ℕ → List ℕ
write_scalar null r = tag Kind.null ∷ byte ";" ∷ r
write_scalar (bool b) r = tag Kind.bool ∷ byte ":" ∷ bit b ∷ byte ";" ∷ r
write_scalar (int x) r = write_int x r
write_scalar (float t) r = tag Kind.float ∷ byte ":" ∷ t ++ (byte ";" ∷ r)
write_scalar (string q) r = write_string q r

-- up to the count. a: "`a:`, number, `:{`, that many pairs, `}`". O: "`O:`, number, `:"`, that many bytes, `":`, number, `:{`, that many pairs, `}`"
abbrev pub write_container : Container → List ℕ → List ℕ
write_container array r = tag Kind.array ∷ byte ":" ∷ r
write_container (object q) r = tag Kind.object ∷ byte ":" ∷ write_quoted q (byte ":" ∷ r)

-- r, R: "letter, `:`, number, `;`"
unfoldable mutual
  pub write : Value → List ℕ → List ℕ
  write (leaf x) r = write_scalar x r
  write (ref n) r = tag (ref_kind n.kind) ∷ byte ":" ∷ write_number n.spelling n.named (byte ";" ∷ r)
  write (branch h ps) r = write_container h.container (write_number h.spelling (count ps) (byte ":" ∷ byte "{" ∷ write_pairs ps (byte "}" ∷ r)))

  pub write_pairs : Values → List ℕ → List ℕ
  write_pairs none r = r
  write_pairs (pair k v ps) r = write_key k (write v (write_pairs ps r))

-- the plan's bytes
abbrev pub print : Value → List ℕ
print v = write v []
