use Rattle.std.proofs.Common.{Some, sym, ◌∙◌, ap, arith, length}
use Rattle.std.specs.Str.{chars}
use Rattle.elasticlunr_trie_nodes.specs.Trie.{step_of}
use Rattle.elasticlunr_trie_nodes.specs.declared.nodes.Place.TheVariants.{Root, At}
use Rattle.elasticlunr_trie_nodes.proofs.Forest.{within}
use Rattle.elasticlunr_trie.proofs.Removing.{clears_text, cleared_listed}
use Rattle.elasticlunr_trie.proofs.inverted_index.remove.remove_posting.Goals as goal

pub clear_number-requires : goal.clear_number-requires
clear_number-requires c =
    let found = rw c.deref.ensures.value at c.find.ensures in
    within (step_of c.args.root.now c.args.nodes.now.items) (length c.args.nodes.now.items) c.requires.trie.forest
    (chars c.args.token.now) Root (At c.in-Some-At.k) (omega arith) (sym found ∙ c.in-Some-At.is
    ∙ ap Some c.in-Some-At.field-0-is)

pub returns-in-Some-At-clause-listed : goal.returns-in-Some-At-clause-listed
returns-in-Some-At-clause-listed c =
    cleared_listed c.args.names.now c.args.references.now.items c.unlist.new.references.items c.args.nodes.now.items
    c.clear_number.new.nodes.items c.in-Some-At.k c.in-Some.number c.requires.listed c.clear_number.ensures
    c.unlist.ensures.keeps

pub returns-in-Some-At-clause-removes : goal.returns-in-Some-At-clause-removes
returns-in-Some-At-clause-removes c =
    let found = rw c.deref.ensures.value at c.find.ensures in
    clears_text c.args.root.now c.args.names.now c.args.nodes.now.items c.clear_number.new.nodes.items
    (chars c.args.token.now) c.args.doc_ref.now c.in-Some-At.k c.in-Some.number (sym found ∙ c.in-Some-At.is
    ∙ ap Some c.in-Some-At.field-0-is) (sym c.number_of.ensures ∙ c.in-Some.is) c.clear_number.ensures
