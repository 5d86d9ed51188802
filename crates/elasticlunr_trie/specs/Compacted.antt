-- A table after a compaction.
use Rattle.std.specs.Prelude.{◌≡◌, ◌↔◌, ◌⊎◌, [], IsTrue, IsSome}
use Rattle.elasticlunr_error.specs.Text.{Text, Bytes}
use Rattle.elasticlunr_trie_nodes.specs.Table.{Table, knows, posting, IsPrefix}

-- the text is empty, or the beginning of one that has a posting
abbrev pub LeadsToPosting : Table → Text → Type 0
LeadsToPosting T s = (s ≡ []) ⊎ ((t : Text) × (r : Bytes) × IsPrefix s t × IsSome (posting T t r))

-- new knows just the texts that lead to a posting of old
abbrev pub KnowsWhatLeads : Table → Table → Type 0
KnowsWhatLeads old new = (s : Text) → IsTrue (knows new s) ↔ LeadsToPosting old s

-- new has the postings of old
abbrev pub KeepsPostings : Table → Table → Type 0
KeepsPostings old new = (s : Text) (r : Bytes) → posting new s r ≡ posting old s r
