use Rattle.std.proofs.Common.{◌≡◌, [], ◌∷◌, string_bytes, sym, ◌∙◌}
use Rattle.std.specs.Str.{chars}
use Rattle.std.proofs.lemmas.Iterator.{items_from_collect, YieldsList-from_chars}
use Rattle.std.proofs.lemmas.Result.{IfOk-at_ok}
use Rattle.std.proofs.lemmas.Str.{IsUtf8-string_bytes}
use Rattle.elasticlunr_text.specs.Text.{text_of}
use Rattle.elasticlunr_browser.proofs.PairLemmas.{stands_for_itself, stands_left, stands_alone, only_one}
use Rattle.elasticlunr_browser.proofs.pairs.ArabicChangeCharChange.change.Goals as goal

pub returns-in_default : goal.returns-in_default
returns-in_default c =
    stands_for_itself c.in_ok-left.field-0 _ c.args.c c.in_ok-left.ensures.left c.in_ok-token.ensures c.in_default.is

pub returns-in_default-as_slice : goal.returns-in_default-as_slice
returns-in_default-as_slice c =
    stands_left c.in_ok-left.field-0 _ c.args.c c.in_ok-left.ensures.left c.in_ok-token.ensures c.in-Some.left
    c.in-Some.is

pub returns-in-len1 : goal.returns-in-len1
returns-in-len1 c =
    let bytes = string_bytes c.in-Some.left in
    let letters : c.in_ok-letters.letters.items ≡ chars bytes = IfOk-at_ok (λ v. v.items ≡ chars bytes)
    c.in_ok-letters.was (items_from_collect c.collect.result c.collect.ensures.ran
    (YieldsList-from_chars bytes (IsUtf8-string_bytes c.in-Some.left) (c.chars.ensures.rest ∙ c.deref.ensures)))
    in
    let alone : text_of c.in-Some.left ≡ c.args.c ∷ [] = sym letters ∙ sym c.as_slice.ensures.value
    ∙ only_one c.as_slice.result.now c.only-item.result c.args.c c.in-len1.len_at_least c.in-len1.len_below
    c.only-item.is c.if-only-c.true in
    stands_alone c.in_ok-left.field-0 _ c.args.c c.in_ok-left.ensures.left c.in_ok-token.ensures c.in-Some.left
    c.in-Some.is alone
