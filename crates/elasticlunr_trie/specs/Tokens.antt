-- The tokens of a table, those that begin with a text, and postings that are handed out.
use Rattle.std.specs.Prelude.{ℕ, List, map, IsSome}
use Rattle.std.specs.Borrow.{Bor}
use Rattle.elasticlunr_error.specs.Text.{Text, Bytes}
use Rattle.elasticlunr_trie_nodes.specs.Table.{Table, posting, IsPrefix}

-- t is a token: a reference has a posting there
abbrev pub IsToken : Table → Text → Type 0
IsToken T t = (r : Bytes) × IsSome (posting T t r)

-- t is a token that begins with s
abbrev pub IsTokenFrom : Table → Text → Text → Type 0
IsTokenFrom T s t = IsPrefix s t × IsToken T t

-- references that are borrowed, each with its frequency
abbrev pub told_postings : List (Bor Bytes × ℕ) → List (Bytes × ℕ)
told_postings ps = map (λ p. (p.0.now, p.1)) ps
