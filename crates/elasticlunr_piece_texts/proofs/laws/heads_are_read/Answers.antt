use Rattle.std.proofs.Common.{ap, ◌∙◌}
use Rattle.serde_json.specs.Read.{read}
use Rattle.elasticlunr_pieces.specs.Entries.{references}
use Rattle.elasticlunr_print.specs.Parts.{plan_of_parts}
use Rattle.elasticlunr_piece_texts.specs.Texts.{beginnings_of}
use Rattle.elasticlunr_piece_texts.proofs.PlainHead.{head_read}
use Rattle.elasticlunr_piece_texts.proofs.Unrefused.{unrefused}
use Rattle.elasticlunr_piece_texts.proofs.laws.heads_are_read.Goals as goal

pub returns-clause-value : goal.returns-clause-value
returns-clause-value c parts field tries texts titles small printed is = ap read is.text
    ∙ head_read parts.store.now small.contents (plan_of_parts parts) (references parts.store.now)
    (beginnings_of parts field tries texts titles) small.sizes small.in_texts small.in_titles

pub returns-clause-taken : goal.returns-clause-taken
returns-clause-taken c parts field size tries texts titles a small printed is = unrefused parts field size tries texts
    titles a _ (ap read is.text
    ∙ head_read parts.store.now small.contents (plan_of_parts parts) (references parts.store.now)
    (beginnings_of parts field tries texts titles) small.sizes small.in_texts small.in_titles)
