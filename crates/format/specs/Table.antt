-- "The node table": the nodes of a plan's syntax, and their words.
use Rattle.std.specs.Prelude.{◌≡◌, List, [], ◌∷◌, ◌++◌, map, Bool, true, false, ℕ, suc, ◌+◌, ◌-◌, ◌*◌, length, get_or, ℤ, pos, negsuc}
use Rattle.decimal.specs.Complement.{pattern}
use Rattle.format.specs.Kind.{Kind, tag, has_text}
use Rattle.format.specs.Tree.{leaf, ref, branch, none, pair, count, nodes, nodes_in, ordinals, one, only}
use Rattle.format.specs.Keys.{integer}
use Rattle.format.specs.Syntax.{int_key, string_key, null, bool, int, float, string, array, object, Quoted, Key, Scalar, Container, Head}
use Rattle.format.specs.Syntax.{ref_kind, Reference, Value, Values, own, write, write_key, write_number, write_container}

pub record Node : Type 0 where
  -- word 0: "the letter's byte"
  pub tag : ℕ
  -- word 1: "the number taken, else 0"
  pub ordinal : ℕ
  -- word 2: "b: 0 or 1. i: the integer's two's complement pattern. d, s: offset of the text. O: offset of the class name. r, R: number named. Else 0"
  pub content : ℕ
  -- word 3: "d, s, O: length of that text, else 0"
  pub size : ℕ
  -- word 4: "a, O: count of pairs. r, R: index of the node named. Else 0"
  pub link : ℕ
  -- word 5: "index of the first node after this one and all it holds"
  pub end : ℕ

-- "six to a node"
abbrev pub words : Node → List ℕ
words n = n.tag ∷ n.ordinal ∷ n.content ∷ n.size ∷ n.link ∷ n.end ∷ []

abbrev pub width : ℕ
width = 6

-- the words of a node, by their index in it, as code has them (src/table.rt)
abbrev pub tag_word : ℕ
tag_word = 0

abbrev pub ordinal_word : ℕ
ordinal_word = 1

abbrev pub content_word : ℕ
content_word = 2

abbrev pub size_word : ℕ
size_word = 3

abbrev pub link_word : ℕ
link_word = 4

abbrev pub end_word : ℕ
end_word = 5

-- from a key's node on: the end of the value's node behind it is the pair's
abbrev pub pair_end : ℕ
pair_end = width + end_word

-- a word of a node, by its index in it
abbrev pub word_at : List ℕ → (node k : ℕ) → ℕ
word_at t node k = get_or t (node * width + k) 0

abbrev pub flat : List Node → List ℕ
flat [] = []
flat (n ∷ ns) = words n ++ flat ns

-- "i: the integer's two's complement pattern"
abbrev pub word : ℤ → ℕ
word (pos n) = pattern 64 false n
word (negsuc n) = pattern 64 true (suc n)

-- where a quoted text begins behind a tag at `o`: tag, colon, length, colon, quote
abbrev pub text_offset : (o : ℕ) → Quoted → ℕ
text_offset o q = o + 4 + length (write_number q.spelling (length q.text) [])

-- a node that holds nothing else: `n` is its ordinal, `i` its index
abbrev pub single : Kind → (n content size i : ℕ) → Node
single k n content size i = record { tag = tag k; ordinal = n; content = content; size = size; link = 0; end = suc i }

-- "Two things take none: keys …": word 1 is 0
abbrev pub key_node : (o i : ℕ) → Key → Node
key_node o i (int_key x) = single Kind.int 0 (word (integer x)) 0 i
key_node o i (string_key q) = single Kind.string 0 (text_offset o q) (length q.text) i

abbrev pub scalar_node : (o i n : ℕ) → Scalar → Node
scalar_node o i n null = single Kind.null n 0 0 i
scalar_node o i n (bool b) = single Kind.bool n (one b) 0 i
scalar_node o i n (int x) = single Kind.int n (word (integer x)) 0 i
scalar_node o i n (float t) = single Kind.float n (o + 2) (length t) i
scalar_node o i n (string q) = single Kind.string n (text_offset o q) (length q.text) i

abbrev pub branch_node : (o n : ℕ) → Container → (pairs end : ℕ) → Node
branch_node o n array pairs e = record { tag = tag Kind.array; ordinal = n; content = 0; size = 0; link = pairs; end = e }
branch_node o n (object q) pairs e = record { tag = tag Kind.object; ordinal = n; content = text_offset o q; size = length q.text; link = pairs; end = e }

-- "the number taken, else 0"
abbrev pub taken : Bool → ℕ → ℕ
taken true n = n
taken false n = 0

abbrev pub ref_node : (target i n : ℕ) → Reference → Node
ref_node target i n r = record { tag = tag (ref_kind r.kind); ordinal = taken (own r) n; content = r.named; size = 0; link = target; end = suc i }

-- where the first pair of a container begins, what follows a key, and what follows a pair; the tag or the key stands at `o`
abbrev pub pairs_offset : (o : ℕ) → Head → (pairs : ℕ) → ℕ
pairs_offset o h n = o + length (write_container h.container (write_number h.spelling n [])) + 2

abbrev pub value_offset : (o : ℕ) → Key → ℕ
value_offset o k = o + length (write_key k [])

abbrev pub next_offset : (o : ℕ) → Key → Value → ℕ
next_offset o k v = o + length (write_key k (write v []))

-- the nodes of a value: `to` gives the index of the node that carries an ordinal; `o` is the tag's position, `i` the node's index and `n` the next ordinal
module _ (to : ℕ → ℕ) where
  abbrev mutual
    pub table : (o i n : ℕ) → Value → List Node
    table o i n (leaf x) = scalar_node o i n x ∷ []
    table o i n (ref r) = ref_node (to r.named) i n r ∷ []
    table o i n (branch h ps) = branch_node o n h.container (count ps) (i + suc (nodes_in ps))
        ∷ table_in (pairs_offset o h (count ps)) (suc i) (suc n) ps

    pub table_in : (o i n : ℕ) → Values → List Node
    table_in o i n none = []
    table_in o i n (pair k v ps) = key_node o i k
        ∷ table (value_offset o k) (suc i) n v
        ++ table_in (next_offset o k v) (suc (i + nodes v)) (n + ordinals own v) ps

-- the indices of the nodes that carry the ordinals, in their order; `i` is the value's own index
abbrev mutual
  pub indices : (i : ℕ) → Value → List ℕ
  indices i (leaf x) = i ∷ []
  indices i (ref r) = only (own r) i
  indices i (branch h ps) = i ∷ indices_in (suc i) ps

  pub indices_in : (i : ℕ) → Values → List ℕ
  indices_in i none = []
  indices_in i (pair k v ps) = indices (suc i) v ++ indices_in (suc (i + nodes v)) ps

-- "It may name an r; it then resolves to that r, one step only."
abbrev pub target_of : Value → (ordinal : ℕ) → ℕ
target_of v n = get_or (indices 0 v) (n - 1) 0

unfoldable pub table_of : Value → List Node
table_of v = table (target_of v) 0 0 1 v

-- the same node but for its text's offset, word 2 of d, s and O
abbrev pub without_offset : Node → Node
without_offset n = record {
  tag = n.tag;
  ordinal = n.ordinal;
  content = elim (has_text n.tag) [ true ↦ 0 | false ↦ n.content ];
  size = n.size;
  link = n.link;
  end = n.end;
}

-- two tables of so many nodes, the same but for text offsets, with the same words behind them
pub record SameButOffsets (count : ℕ) (t t' : List ℕ) : Type 0 where
  pub nodes : List Node
  pub counted : length nodes ≡ count
  pub others : List Node
  pub rest : List ℕ
  pub first : t ≡ flat nodes ++ rest
  pub second : t' ≡ flat others ++ rest
  pub same : map without_offset others ≡ map without_offset nodes
