use Rattle.std.proofs.Common.{◌≡◌, ◌<◌, List, [], ◌∷◌, ◌++◌, Option, Some, length, map, arith, zero-add, string_bytes}
use Rattle.std.proofs.Common.{sym, subst, ap, ◌∙◌, refl}
use Rattle.std.specs.List.{slice_get}
use Rattle.std.proofs.lemmas.List.{map-append}
use Rattle.std.proofs.lemmas.Simd.{map-map}
use Rattle.std.proofs.lemmas.Option.{slice_get_read}
use Rattle.std.proofs.lemmas.List.FromFn.{get_or-enumerate_from, length-enumerate_from}
use Rattle.std.proofs.lemmas.Iterator.Adapters.{YieldsList-from_vec}
use Rattle.std.proofs.lemmas.Iterator.Consumers.{YieldsList-turn, YieldsList-end, YieldsList-from_enumerate}
use Rattle.elasticlunr_error.specs.Text.{Text, bytes_of}
use Rattle.elasticlunr_commands.specs.Entered.{AddsTokens}
use Rattle.elasticlunr_state.specs.Texts.{texts_left, token_texts, with_tokens, with_all_tokens}
use Rattle.elasticlunr_state.proofs.Counting.{mapped_there}
use Rattle.elasticlunr_state.proofs.Entering.{adds_none, adds_more, one_more_field, length-mapped}
use Rattle.elasticlunr_state.proofs.Others.{stay, stay_on}
use Rattle.elasticlunr_state.proofs.Pairing.{enumerated}
use Rattle.elasticlunr_state.proofs.contents.IndexContents.enter_tokens.Goals as goal

pub enter_field-requires : goal.enter_field-requires
enter_field-requires c =
    let e = c.into_iter-i-iterator.ensures.into_iter_gives in
    let t = YieldsList-turn (YieldsList-from_enumerate
    (YieldsList-from_vec c.args.tokens.items (ap (λ s. s.iter.rest.items) e
    ∙ ap (λ s. s.rest.items) c.enumerate-i-items.ensures.source ∙ c.into_iter.ensures.rest)
    (ap (λ s. s.iter.rest.len) e ∙ ap (λ s. s.rest.len) c.enumerate-i-items.ensures.source
    ∙ c.into_iter.ensures.len ∙ c.args.tokens.ok.0)) (ap (λ s. s.count) e ∙ c.enumerate-i-items.ensures.count))
    c.loop-i.yielded c.loop-i.i-iterator c.loop-i.yielded_by c.next.result c.next.new.self
    (c.in-Some.i, c.in-Some.tokens) c.in-Some.is c.next.ensures.steps in
    let inside : length c.loop-i.yielded < length c.args.tokens.items =
    omega (arith, t.0, length-enumerate_from 0 c.args.tokens.items) in
    let at : c.in-Some.i ≡ length c.loop-i.yielded =
    ap (λ p. p.0) (t.1 ∙ get_or-enumerate_from 0 c.args.tokens.items (length c.loop-i.yielded)
    (c.in-Some.i, c.in-Some.tokens) inside) ∙ zero-add _ in
    omega (
      arith,
      at,
      inside,
      c.requires.one_each,
      c.requires.few,
      c.args.tokens.ok.0,
      c.loop-i.invariant.adds.as_many,
      c.args.self.now.tries.ok.0,
      c.loop-i.self.tries.ok.0,
    )

pub loop-i-init : goal.loop-i-init
loop-i-init c = record {
  adds = adds_none c.args.doc_ref.now c.args.self.now.tries.items;
  store = refl;
  others_stay =
      stay c.args.doc_ref.now c.args.self.now.tries.items c.args.self.now.store;
}

pub loop-i-preserved : goal.loop-i-preserved
loop-i-preserved c =
    let e = c.into_iter-i-iterator.ensures.into_iter_gives in
    let t = YieldsList-turn (YieldsList-from_enumerate
    (YieldsList-from_vec c.args.tokens.items (ap (λ s. s.iter.rest.items) e
    ∙ ap (λ s. s.rest.items) c.enumerate-i-items.ensures.source ∙ c.into_iter.ensures.rest)
    (ap (λ s. s.iter.rest.len) e ∙ ap (λ s. s.rest.len) c.enumerate-i-items.ensures.source
    ∙ c.into_iter.ensures.len ∙ c.args.tokens.ok.0)) (ap (λ s. s.count) e ∙ c.enumerate-i-items.ensures.count))
    c.loop-i.yielded c.loop-i.i-iterator c.loop-i.yielded_by c.next.result c.next.new.self
    (c.in-Some.i, c.in-Some.tokens) c.in-Some.is c.next.ensures.steps in
    let inside : length c.loop-i.yielded < length c.args.tokens.items =
    omega (arith, t.0, length-enumerate_from 0 c.args.tokens.items) in
    let at : c.in-Some.i ≡ length c.loop-i.yielded =
    ap (λ p. p.0) (t.1 ∙ get_or-enumerate_from 0 c.args.tokens.items (length c.loop-i.yielded)
    (c.in-Some.i, c.in-Some.tokens) inside) ∙ zero-add _ in
    let done : List (Option (List Text)) = map (λ e. texts_left e.1) c.loop-i.yielded in
    let at_done : c.in-Some.i ≡ length done = at ∙ sym (length-mapped _ c.loop-i.yielded) in
    let field_inside : c.in-Some.i < length c.args.fields.now =
    omega (arith, at, inside, c.requires.few, c.args.tokens.ok.0) in
    let field_read : slice_get c.args.fields.now c.in-Some.i ≡ Some c.index-fields-i.result =
    slice_get_read c.args.fields.now (length c.args.fields.now) c.in-Some.i c.index-fields-i.result refl
    field_inside c.index-fields-i.is in
    let field_at : slice_get (bytes_of c.args.fields.now) (length done) ≡ Some c.as_str.result.now =
    subst (λ k. slice_get (bytes_of c.args.fields.now) k ≡ Some c.as_str.result.now) at_done
    (mapped_there string_bytes c.args.fields.now c.in-Some.i c.index-fields-i.result field_read
    ∙ ap Some (sym c.as_str.ensures.value)) in
    let more : map (λ e. texts_left e.1) (c.loop-i.yielded ++ (c.in-Some.i, c.in-Some.tokens) ∷ [])
    ≡ done ++ texts_left c.in-Some.tokens ∷ [] = map-append _ c.loop-i.yielded _ in
    record {
      adds = subst (λ ts. AddsTokens c.args.doc_ref.now ts c.args.self.now.tries.items
          c.enter_field.new.self.tries.items) (sym more)
          (adds_more c.args.doc_ref.now done c.in-Some.i (texts_left c.in-Some.tokens) c.args.self.now.tries.items
          c.loop-i.self.tries.items c.enter_field.new.self.tries.items at_done c.loop-i.invariant.adds
          (sym c.enter_field.new.self.tries.ok.0 ∙ c.in_ok-enter_field.ensures.as_many ∙ c.loop-i.self.tries.ok.0)
          c.in_ok-enter_field.ensures.table c.in_ok-enter_field.ensures.others);
      store = c.in_ok-enter_field.ensures.store
          ∙ ap (λ s. with_tokens s c.args.doc_ref.now c.as_str.result.now (texts_left c.in-Some.tokens))
          c.loop-i.invariant.store
          ∙ one_more_field c.args.self.now.store c.args.doc_ref.now (bytes_of c.args.fields.now) done
          c.as_str.result.now (texts_left c.in-Some.tokens) field_at
          ∙ ap (with_all_tokens c.args.self.now.store c.args.doc_ref.now (bytes_of c.args.fields.now)) (sym more);
      others_stay = stay_on c.args.doc_ref.now c.args.self.now.tries.items c.loop-i.self.tries.items
          c.enter_field.new.self.tries.items c.args.self.now.store c.loop-i.self.store c.enter_field.new.self.store
          c.loop-i.invariant.others_stay c.enter_field.ensures.others_stay;
    }

pub returns-clause-tables : goal.returns-clause-tables
returns-clause-tables c =
    let e = c.into_iter-i-iterator.ensures.into_iter_gives in
    let t = YieldsList-end (YieldsList-from_enumerate
    (YieldsList-from_vec c.args.tokens.items (ap (λ s. s.iter.rest.items) e
    ∙ ap (λ s. s.rest.items) c.enumerate-i-items.ensures.source ∙ c.into_iter.ensures.rest)
    (ap (λ s. s.iter.rest.len) e ∙ ap (λ s. s.rest.len) c.enumerate-i-items.ensures.source
    ∙ c.into_iter.ensures.len ∙ c.args.tokens.ok.0)) (ap (λ s. s.count) e ∙ c.enumerate-i-items.ensures.count))
    c.loop-i.yielded c.loop-i.i-iterator c.loop-i.yielded_by c.next.result c.next.new.self c.in-None.is
    c.next.ensures.steps in
    let all : map (λ e. texts_left e.1) c.loop-i.yielded ≡ token_texts c.args.tokens.items =
    sym (map-map (λ e. texts_left e.1) _ c.loop-i.yielded) ∙ ap (map (λ e. texts_left e.1)) t.0
    ∙ enumerated texts_left c.args.tokens.items 0 in
    subst (λ ts. AddsTokens c.args.doc_ref.now ts c.args.self.now.tries.items c.loop-i.self.tries.items) all
    c.loop-i.invariant.adds

pub returns-clause-store : goal.returns-clause-store
returns-clause-store c =
    let e = c.into_iter-i-iterator.ensures.into_iter_gives in
    let t = YieldsList-end (YieldsList-from_enumerate
    (YieldsList-from_vec c.args.tokens.items (ap (λ s. s.iter.rest.items) e
    ∙ ap (λ s. s.rest.items) c.enumerate-i-items.ensures.source ∙ c.into_iter.ensures.rest)
    (ap (λ s. s.iter.rest.len) e ∙ ap (λ s. s.rest.len) c.enumerate-i-items.ensures.source
    ∙ c.into_iter.ensures.len ∙ c.args.tokens.ok.0)) (ap (λ s. s.count) e ∙ c.enumerate-i-items.ensures.count))
    c.loop-i.yielded c.loop-i.i-iterator c.loop-i.yielded_by c.next.result c.next.new.self c.in-None.is
    c.next.ensures.steps in
    let all : map (λ e. texts_left e.1) c.loop-i.yielded ≡ token_texts c.args.tokens.items =
    sym (map-map (λ e. texts_left e.1) _ c.loop-i.yielded) ∙ ap (map (λ e. texts_left e.1)) t.0
    ∙ enumerated texts_left c.args.tokens.items 0 in
    c.loop-i.invariant.store ∙ ap (with_all_tokens c.args.self.now.store c.args.doc_ref.now
    (bytes_of c.args.fields.now)) all

-- what came before the error left what others have, and the error too
pub returns-in_err-enter_field-clause-others_stay : goal.returns-in_err-enter_field-clause-others_stay
returns-in_err-enter_field-clause-others_stay c =
    stay_on c.args.doc_ref.now c.args.self.now.tries.items c.loop-i.self.tries.items c.enter_field.new.self.tries.items
    c.args.self.now.store c.loop-i.self.store c.enter_field.new.self.store
    c.loop-i.invariant.others_stay c.enter_field.ensures.others_stay
