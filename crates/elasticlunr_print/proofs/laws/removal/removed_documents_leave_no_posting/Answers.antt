use Rattle.elasticlunr_commands.proofs.Same.{same_contents, same_postings_held}
use Rattle.elasticlunr_print.proofs.laws.removal.removed_documents_leave_no_posting.Goals as goal

pub returns : goal.returns
returns c = record {
  contents = λ plan commands fresh tables others contents kept is held fresh_held. same_contents commands fresh is.same
      plan contents kept held.store fresh_held.store;
  postings = λ plan commands fresh tables others contents kept is held fresh_held. same_postings_held commands fresh
      is.same plan tables others contents kept held fresh_held;
}
