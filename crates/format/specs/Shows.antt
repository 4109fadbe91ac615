-- How a table is read: what its nodes and the plan's bytes say of a value, by the words that paper 01 lists.
use Rattle.std.specs.Prelude.{◌≡◌, List, [], ◌∷◌, ◌++◌, Bool, true, false, ℕ, zero, suc, ◌+◌, ◌≤◌, eqb, ℤ, pos, neg_ℤ, length, get_or, take, drop}
use Rattle.decimal.specs.Complement.{is_negative, magnitude}
use Rattle.format.specs.Bytes.{byte}
use Rattle.format.specs.Kind.{Kind, tag}
use Rattle.format.specs.Tree.{Pairs, none, pair, leaf, ref, branch, TreePath, count, nodes, nodes_in, one}
use Rattle.format.specs.Syntax.{int_key, string_key, null, bool, int, float, string, array, object, RefKind, object_ref, variable_ref, ref_kind}
use Rattle.format.specs.Syntax.{Quoted, Key, Scalar, Container, Value, Values, write_number, write_key, write_container, write}
use Rattle.format.specs.Keys.{KeyMeaning}
use Rattle.format.specs.Meaning.{Meaning, ScalarMeaning, HeadMeaning, ReferenceMeaning, meaning}
use Rattle.format.specs.Table.{Node, word}

-- the integer of a word, read back
abbrev pub from_sign : (negative : Bool) → (magnitude : ℕ) → ℤ
from_sign false n = pos n
from_sign true n = neg_ℤ (pos n)

abbrev pub integer_of : (word : ℕ) → ℤ
integer_of w = from_sign (is_negative 64 w) (magnitude 64 w)

-- the ordinals taken, in table order: the words 1 that are not 0
abbrev pub ordinals_of : List Node → List ℕ
ordinals_of [] = []
ordinals_of (n ∷ ns) = elim (eqb n.ordinal 0) [ true ↦ ordinals_of ns | false ↦ n.ordinal ∷ ordinals_of ns ]

-- so many numbers, from n on
abbrev pub up_from : (n count : ℕ) → List ℕ
up_from n zero = []
up_from n (suc c) = n ∷ up_from (suc n) c

module _ (rows : List Node) where
  abbrev pub node_at : ℕ → Node
  node_at i = get_or rows i (record { tag = 0; ordinal = 0; content = 0; size = 0; link = 0; end = 0 })

  -- of pairs that begin at node i, the node of the key at place q: a value's word 5 leads to the next pair
  abbrev pub pair_at : (i q : ℕ) → ℕ
  pair_at i zero = i
  pair_at i (suc q) = (node_at (suc (pair_at i q))).end

  -- from the value at node i, the node of the value at a path
  abbrev pub follow : (i : ℕ) → TreePath → ℕ
  follow i [] = i
  follow i (q ∷ a) = follow (suc (pair_at (suc i) q)) a

  -- words 0, 3, 4 and 5
  pub record Row (i : ℕ) (k : Kind) (s l e : ℕ) : Type 0 where
    pub tag : (node_at i).tag ≡ tag k
    pub size : (node_at i).size ≡ s
    pub link : (node_at i).link ≡ l
    pub end : (node_at i).end ≡ e

  -- word 1, and word 2
  abbrev pub WithOrdinal : ℕ → Type 0
  WithOrdinal i = 1 ≤ (node_at i).ordinal

  abbrev pub WithoutOrdinal : ℕ → Type 0
  WithoutOrdinal i = (node_at i).ordinal ≡ 0

  abbrev pub Content : (i content : ℕ) → Type 0
  Content i n = (node_at i).content ≡ n

  -- an integer's pattern, from which it is read back
  abbrev pub Pattern : (i : ℕ) → ℤ → Type 0
  Pattern i n = ((node_at i).content ≡ word n) × (integer_of (node_at i).content ≡ n)

  abbrev pub Taking : RefKind → ℕ → Type 0
  Taking object_ref i = WithOrdinal i
  Taking variable_ref i = WithoutOrdinal i

  -- word 4 is "index of the node named": the node at the path named, and it carries the number in word 2
  pub record ShowsReference (i : ℕ) (r : ReferenceMeaning) : Type 0 where
    pub row : Row i (ref_kind r.kind) 0 (follow 0 r.names) (suc i)
    pub taking : Taking r.kind i
    pub named : (node_at (node_at i).link).ordinal ≡ (node_at i).content
    pub least : 1 ≤ (node_at i).content

-- these bytes stand at a position
abbrev pub Begins : (source : List ℕ) → (o : ℕ) → List ℕ → Type 0
Begins source o t = take (length t) (drop o source) ≡ t

module _ (source : List ℕ) (rows : List Node) where
  -- word 2 as the offset of a text
  abbrev pub Text : (i : ℕ) → List ℕ → Type 0
  Text i t = Begins source (node_at rows i).content t

  abbrev pub ShowsKey : (i : ℕ) → KeyMeaning → Type 0
  ShowsKey i (int_key n) = Row rows i Kind.int 0 0 (suc i) × WithoutOrdinal rows i × Pattern rows i n
  ShowsKey i (string_key t) = Row rows i Kind.string (length t) 0 (suc i) × WithoutOrdinal rows i × Text i t

  abbrev pub ShowsScalar : (i : ℕ) → ScalarMeaning → Type 0
  ShowsScalar i null = Row rows i Kind.null 0 0 (suc i) × WithOrdinal rows i × Content rows i 0
  ShowsScalar i (bool b) = Row rows i Kind.bool 0 0 (suc i) × WithOrdinal rows i × Content rows i (one b)
  ShowsScalar i (int n) = Row rows i Kind.int 0 0 (suc i) × WithOrdinal rows i × Pattern rows i n
  ShowsScalar i (float t) = Row rows i Kind.float (length t) 0 (suc i) × WithOrdinal rows i × Text i t
  ShowsScalar i (string t) = Row rows i Kind.string (length t) 0 (suc i) × WithOrdinal rows i × Text i t

  abbrev pub ShowsHead : (i pairs end : ℕ) → HeadMeaning → Type 0
  ShowsHead i n e array = Row rows i Kind.array 0 n e × WithOrdinal rows i × Content rows i 0
  ShowsHead i n e (object t) = Row rows i Kind.object (length t) n e × WithOrdinal rows i × Text i t

  -- the node of a value, then those of its pairs: each a key's and then a value's
  abbrev mutual
    pub Shows : (i : ℕ) → Meaning → Type 0
    Shows i (leaf x) = ShowsScalar i x
    Shows i (ref r) = ShowsReference rows i r
    Shows i (branch h ps) = ShowsHead i (count ps) (i + suc (nodes_in ps)) h × ShowsIn (suc i) ps

    pub ShowsIn : (i : ℕ) → Pairs KeyMeaning ScalarMeaning HeadMeaning ReferenceMeaning → Type 0
    ShowsIn i none = Unit {0}
    ShowsIn i (pair k v ps) = ShowsKey i k × Shows (suc i) v × ShowsIn (node_at rows (suc i)).end ps

-- from its tag on, what stands before a quoted text: letter, `:`, number, `:"`
abbrev pub up_to_text : Kind → Quoted → List ℕ
up_to_text k q = tag k ∷ byte ":" ∷ write_number q.spelling (length q.text) (byte ":" ∷ byte "\"" ∷ [])

module _ (source : List ℕ) (rows : List Node) where
  -- "offset of the text", "offset of the class name": word 2 is the length of all that stands before it in the plan
  pub record TextBehind (i : ℕ) (before text : List ℕ) : Type 0 where
    pub offset : (node_at rows i).content ≡ length before
    pub stands : Begins source 0 (before ++ text)

  -- the text of a key, a scalar or a head, if it has one: `before` is all that stands before its tag
  abbrev pub PlacedKey : (i : ℕ) → (before : List ℕ) → Key → Type 0
  PlacedKey i before (int_key x) = Unit {0}
  PlacedKey i before (string_key q) = TextBehind i (before ++ up_to_text Kind.string q) q.text

  abbrev pub PlacedScalar : (i : ℕ) → (before : List ℕ) → Scalar → Type 0
  PlacedScalar i before null = Unit {0}
  PlacedScalar i before (bool b) = Unit {0}
  PlacedScalar i before (int x) = Unit {0}
  PlacedScalar i before (float t) = TextBehind i (before ++ (tag Kind.float ∷ byte ":" ∷ [])) t
  PlacedScalar i before (string q) = TextBehind i (before ++ up_to_text Kind.string q) q.text

  abbrev pub PlacedContainer : (i : ℕ) → (before : List ℕ) → Container → Type 0
  PlacedContainer i before array = Unit {0}
  PlacedContainer i before (object q) = TextBehind i (before ++ up_to_text Kind.object q) q.text

  -- the texts of the value at node i: its own, then those of its pairs
  abbrev mutual
    pub Placed : (i : ℕ) → (before : List ℕ) → Value → Type 0
    Placed i before (leaf x) = PlacedScalar i before x
    Placed i before (ref r) = Unit {0}
    Placed i before (branch h ps) = PlacedContainer i before h.container
        × PlacedIn (suc i) (before ++ write_container h.container (write_number h.spelling (count ps) (byte ":" ∷ byte "{" ∷ []))) ps

    pub PlacedIn : (i : ℕ) → (before : List ℕ) → Values → Type 0
    PlacedIn i before none = Unit {0}
    PlacedIn i before (pair k v ps) = PlacedKey i before k
        × Placed (suc i) (before ++ write_key k []) v
        × PlacedIn (suc (i + nodes v)) (before ++ write_key k (write v [])) ps

-- what the nodes of a plan say: its meaning, and where its texts stand
pub record Says (source : List ℕ) (rows : List Node) (v : Value) : Type 0 where
  pub shown : Shows source rows 0 (meaning v)
  pub placed : Placed source rows 0 [] v
