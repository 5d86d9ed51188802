use Rattle.std.proofs.Common.{rules, ◌≡◌, ◌<◌, Some, None, length, sym, subst, refl, OnOk}
use Rattle.std.proofs.Math.ListN.{set}
use Rattle.std.specs.List.{slice_get}
use Rattle.std.proofs.lemmas.Result.{on_ok_weaker}
use Rattle.std.proofs.lemmas.Option.{slice_get_read}
use Rattle.elasticlunr_error.specs.Text.{Text}
use Rattle.elasticlunr_trie.specs.Table.{Table, posting}
use Rattle.elasticlunr_commands.specs.Entered.{ReplacesPostings}
use Rattle.elasticlunr_state.specs.Counted.{entries_of}
use Rattle.elasticlunr_state.specs.Texts.{texts_left}
use Rattle.elasticlunr_state.specs.Others.{OthersStay}
use Rattle.elasticlunr_state.proofs.Others.{stay_length, stay_on, stay_set}
use Rattle.elasticlunr_state.proofs.Pairing.{set_elsewhere}
use Rattle.elasticlunr_state.proofs.Counting.{replaced_at}
use Rattle.elasticlunr_state.proofs.contents.IndexContents.enter_field.Goals as goal

pub returns-clause-table : goal.returns-clause-table
returns-clause-table c =
    let inside : c.args.i < length c.args.self.now.tries.items = search rules in
    let read : slice_get c.args.self.now.tries.items c.args.i
    ≡ Some c.index_mut.result.now = slice_get_read c.args.self.now.tries.items
    (length c.args.self.now.tries.items) c.args.i c.index_mut.result.now refl inside c.index_mut.ensures.value in
    subst (λ o. OnOk c.add_postings.result ((before after : Table) → slice_get c.args.self.now.tries.items c.args.i
    ≡ Some before → slice_get (set c.args.self.now.tries.items c.args.i c.add_postings.new.trie) c.args.i
    ≡ Some after
    → ((token : Text) → posting before token c.args.doc_ref.now ≡ None)
    → ReplacesPostings before after c.args.doc_ref.now (texts_left o))) (sym c.in-Some.is)
    (on_ok_weaker c.add_postings.result
    (replaced_at c.in-Some.tokens.items (entries_of c.in_ok-counts.counts) c.in_ok-counts.ensures.counted
    c.add_postings.ensures.unique c.args.self.now.tries.items c.args.i c.index_mut.result.now
    c.add_postings.new.trie c.args.doc_ref.now inside read)
    c.add_postings.ensures.posted)

pub returns-clause-others : goal.returns-clause-others
returns-clause-others c = on_ok_weaker c.add_postings.result
    (λ _ j differs. set_elsewhere c.args.self.now.tries.items c.args.i j c.add_postings.new.trie differs)
    c.add_postings.ensures.posted

pub returns-in_err-counts-clause-others_stay : goal.returns-in_err-counts-clause-others_stay
returns-in_err-counts-clause-others_stay c =
    subst (OthersStay c.args.doc_ref.now c.args.self.now.tries.items c.args.self.now.tries.items c.args.self.now.store)
    (sym c.in_ok-add_field_length.ensures.ok)
    (stay_length c.args.doc_ref.now c.args.self.now.tries.items c.args.self.now.store c.args.field.now c.len.result)

pub returns-clause-others_stay : goal.returns-clause-others_stay
returns-clause-others_stay c =
    let tables = c.args.self.now.tries.items in
    let reference = c.args.doc_ref.now in
    let store = c.add_field_length.new.self in
    let inside : c.args.i < length tables = search rules in
    let read : slice_get tables c.args.i ≡ Some c.index_mut.result.now = slice_get_read tables (length tables) c.args.i
    c.index_mut.result.now refl inside c.index_mut.ensures.value in
    let lengthened = subst (OthersStay reference tables tables c.args.self.now.store)
    (sym c.in_ok-add_field_length.ensures.ok) (stay_length reference tables c.args.self.now.store c.args.field.now
    c.len.result) in
    stay_on reference tables tables (set tables c.args.i c.add_postings.new.trie) c.args.self.now.store store store
    lengthened
    (stay_set reference tables c.args.i c.index_mut.result.now c.add_postings.new.trie store inside read
    c.add_postings.ensures.others_stay)
