use Rattle.std.proofs.Common.{◌≡◌, Some, length, sym, ap, subst, ◌∙◌}
use Rattle.serde_json.specs.Data.{object}
use Rattle.serde_json.specs.Read.{read}
use Rattle.serde_json.specs.View.{view}
use Rattle.elasticlunr_error.specs.Text.{bytes_of}
use Rattle.elasticlunr_json.proofs.ReadingMaps.{object_of}
use Rattle.elasticlunr_piece_search.specs.Entries.{AreEntriesAdded, HasLists, piece_value}
use Rattle.std.specs.List.{AllByRecursion}
use Rattle.elasticlunr_piece_search.specs.Pieces.{AreTokensAt}
use Rattle.elasticlunr_piece_search.proofs.Entering.{added_each, its_members, on_ok, one_value, same_tokens, written_back}
use Rattle.elasticlunr_piece_search.proofs.piece_index.PieceIndex.add_tokens.Goals as goal

pub returns-then-not-is_at-clause-fault : goal.returns-then-not-is_at-clause-fault
returns-then-not-is_at-clause-fault c entries piece =
    let head = c.args.self.now.head.now in
    let ms = c.in-Some.piece.now.entries in
    let same = one_value (view c.in_ok-value.value) (piece_value entries) (read c.args.text.now)
    c.in_ok-value.ensures.value piece.reads in
    let tokens = same_tokens ms entries (its_members (view c.in_ok-value.value) ms entries c.in-Some.ensures same) in
    c.is_at.ensures.no c.if-not-is_at.true (subst (AreTokensAt head c.args.number) tokens piece.tokens)

pub returns-clause-added : goal.returns-clause-added
returns-clause-added c =
    let head = c.args.self.now.head.now in
    let names = bytes_of head.references.items in
    let tries = c.args.self.now.tries in
    let new = c.add_entries.new.tries in
    let ms = c.in-Some.piece.now.entries in
    let many : length new ≡ length c.deref_mut.result.now = c.add_entries.ensures.many in
    on_ok c.add_entries.result _ _ (λ done.
    let (entries, is, changed) = done in
    let renamed = subst (λ rs. AreEntriesAdded (bytes_of rs) entries c.deref_mut.result.now new)
    c.deref.ensures.value changed in
    let added = subst (λ ts. AreEntriesAdded names entries ts new) c.deref_mut.ensures.value renamed in (
      entries,
      record {
        size = cc (c.in_ok-value.ensures.size);
        reads = c.in_ok-value.ensures.value
            ∙ ap Some (object_of (view c.in_ok-value.value) _ c.in-Some.ensures ∙ ap object is);
        tokens = subst (AreTokensAt head c.args.number) (sym (same_tokens ms entries is))
            (c.is_at.ensures.yes c.if-not-is_at.false);
        each = subst (λ n. AllByRecursion (HasLists (length names) n) entries) (sym tries.ok.0)
            (added_each names entries tries.items new added);
      },
      subst (AreEntriesAdded names entries tries.items) (sym (written_back tries.len new tries.items tries.ok.0
          (many ∙ ap length c.deref_mut.ensures.value))) added,
    )) c.add_entries.ensures.added
