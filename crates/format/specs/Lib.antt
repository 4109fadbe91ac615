-- THE DEFINITIONS, in the order in which to read them beside the specification (paper 01). A quotation in a comment is a sentence of it, or of the three
-- demands, which docs/PROOFS.md repeats. Behind these: crates/insertion/specs/Shift, inserting on the meaning, and Ways, where an array stands;
-- crates/reader/specs/Promise, what `read` promises; crates/editor/specs/Promise, what `canonicalize` and `insert` promise.

-- the grammar: it does not know reading
pub mod Bytes  -- bytes as numbers, and texts written readably
pub mod Kind  -- the nine kinds, by their tags
pub mod Tree  -- trees of values and pairs, their nodes, ordinals and paths: syntax and meaning are both such trees
pub mod Syntax  -- a plan's syntax, with each choice of spelling kept, and its bytes (`print`)
pub mod Keys  -- what a key means, and when two are equal
pub mod Limits  -- what the grammar and reading share: limits, a service's terms, float texts, what is seen of earlier values
pub mod Fits  -- which syntaxes are plans (`Valid`), and which of them have room in a table (`Fits`)
-- reading, and what is read
pub mod Answer  -- what was read, or a refusal with its number and position
pub mod Codes  -- the numbers of refusals, for code
pub mod Read  -- reading: the plan's texts, and the order of refusals over any form of writing
pub mod Table  -- the nodes of a syntax, and their words
pub mod Meaning  -- what a plan's bytes mean (`Means`), with no word of reading
pub mod Canonical  -- the syntax whose print is the canonical text
pub mod Shows  -- how a table is read: what its nodes and the plan's bytes say of a meaning, and where its texts stand
pub mod Reading  -- what reading as a service answers, and leaves in the lent table
-- writing
pub mod Edit  -- inserting, on the syntax
pub mod Writing  -- the bytes that retyping and inserting write, or the first refusal
pub mod Cases  -- the worked cases, as tables
