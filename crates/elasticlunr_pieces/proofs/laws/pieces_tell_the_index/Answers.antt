use Rattle.elasticlunr_pieces.proofs.Telling.{documents_tell, lengths_tell, members_tell, values_tell}
use Rattle.elasticlunr_pieces.proofs.laws.pieces_tell_the_index.Goals as goal

pub returns-clause-tokens : goal.returns-clause-tokens
returns-clause-tokens c = members_tell

pub returns-clause-lists : goal.returns-clause-lists
returns-clause-lists c = values_tell

pub returns-clause-lengths : goal.returns-clause-lengths
returns-clause-lengths c = lengths_tell

pub returns-clause-texts : goal.returns-clause-texts
returns-clause-texts c = documents_tell
