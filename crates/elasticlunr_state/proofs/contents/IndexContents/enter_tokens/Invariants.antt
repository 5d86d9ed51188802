use Rattle.std.proofs.Common.{◌≡◌, map}
use Rattle.elasticlunr_error.specs.Text.{bytes_of}
use Rattle.elasticlunr_commands.specs.Entered.{AddsTokens}
use Rattle.elasticlunr_state.specs.Others.{OthersStay}
use Rattle.elasticlunr_state.specs.Texts.{texts_left, with_all_tokens}
use Rattle.elasticlunr_state.proofs.contents.IndexContents.enter_tokens.Given as goal

abbrev pub invariant-loop-i : goal.invariant-loop-i
invariant-loop-i l = record {
  adds : AddsTokens l.doc_ref (map (λ e. texts_left e.1) l.yielded) l.fn.self.tries.items l.self.tries.items;
  store : l.self.store ≡ with_all_tokens l.fn.self.store l.doc_ref (bytes_of l.fields)
      (map (λ e. texts_left e.1) l.yielded);
  others_stay : OthersStay l.doc_ref l.fn.self.tries.items l.self.tries.items l.fn.self.store l.self.store;
}
