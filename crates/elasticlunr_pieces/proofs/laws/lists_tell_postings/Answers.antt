use Rattle.std.specs.FinMap.{entries, same_entries_map}
use Rattle.std.specs.Str.{chars}
use Rattle.elasticlunr_trie.specs.Table.{postings}
use Rattle.elasticlunr_pieces.specs.Entries.{numbered}
use Rattle.elasticlunr_pieces.proofs.Telling.{array_told, list_tells}
use Rattle.elasticlunr_pieces.proofs.laws.lists_tell_postings.Goals as goal

pub returns : goal.returns
returns c names table other token here there same =
    let ps = entries (postings table (chars token)) in
    let qs = entries (postings other (chars token)) in
    same_entries_map (postings table (chars token)) (postings other (chars token))
    (list_tells names ps qs here there (array_told (numbered names ps) (numbered names qs) same))
