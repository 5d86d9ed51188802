use Rattle.elasticlunr_trie_nodes.proofs.Gathered.{put_listed, put_here, put_others}
use Rattle.elasticlunr_trie_nodes.proofs.numbered.put_posting.Goals as goal

pub returns-clause-listed : goal.returns-clause-listed
returns-clause-listed c =
    put_listed c.args.names.now c.args.references.now.items c.args.k c.args.postings.now c.requires.listed
    c.args.doc_ref.now c.enter.new.self c.in_ok-number.ensures.names c.list_new.new.references.items
    c.list_new.ensures.keeps c.in_ok-number.number c.args.frequency
    c.in_ok-number.ensures.number c.set.new.self c.in_ok-set.ensures.ok c.in_ok-list_new.ensures.lists
    c.ranges.frequency.fits

pub returns-clause-set : goal.returns-clause-set
returns-clause-set c =
    put_here c.args.names.now c.args.references.now.items c.args.k c.args.postings.now c.requires.listed
    c.args.doc_ref.now c.enter.new.self c.in_ok-number.ensures.names c.list_new.new.references.items
    c.list_new.ensures.keeps c.in_ok-number.number c.args.frequency
    c.in_ok-number.ensures.number c.set.new.self c.in_ok-set.ensures.ok

pub returns-clause-others : goal.returns-clause-others
returns-clause-others c = λ q apart.
    put_others c.args.names.now c.args.references.now.items c.args.k c.args.postings.now c.requires.listed
    c.args.doc_ref.now c.enter.new.self c.in_ok-number.ensures.names c.list_new.new.references.items
    c.list_new.ensures.keeps c.in_ok-number.number c.args.frequency
    c.in_ok-number.ensures.number c.set.new.self c.in_ok-set.ensures.ok q apart
