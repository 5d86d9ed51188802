use Rattle.std.proofs.Common.{◌≡◌, ◌∙◌, [], Bool, filter, ap, refl, rules, subst, sym, String, if◌then◌else◌}
use Rattle.std.proofs.lemmas.Fn.{filter_same}
use Rattle.std.specs.Str.{chars}
use Rattle.std.specs.declared.alloc.Global.{Global}
use Rattle.elasticlunr_lang.specs.Words.{words}
use Rattle.elasticlunr_text.specs.Text.{text_of, texts_of}
use Rattle.elasticlunr.specs.Fields.{borrowed, has_name}
use Rattle.elasticlunr_job.specs.Commands.{is_short}
use Rattle.elasticlunr_job.proofs.KeptWords.{map-filter}
use Rattle.elasticlunr_job.proofs.kept.kept_words.Goals as goal

pub returns : goal.returns
returns c =
    let longest = c.args.rules.now.longest in
    let only = filter_same _ (λ (word : String Global). is_short longest (text_of word)) _
    (λ x b f k. (search rules, search rules)) c.in_ok-words.words.items c.retain.new.self.items
    c.retain.ensures.filtered in
    let kept : texts_of c.retain.new.self.items ≡ filter (is_short longest) (words (chars c.args.value.now)) =
    ap texts_of only
    ∙ map-filter text_of (is_short longest) (λ word. is_short longest (text_of word)) (λ word. refl)
    c.in_ok-words.words.items
    ∙ ap (filter (is_short longest)) c.in_ok-words.ensures in
    let unnamed = sym (ap (λ names. has_name c.args.field.now (borrowed names)) c.deref.ensures.value)
    ∙ sym c.has_name.ensures ∙ c.if-has_name.false in
    subst (λ (b : Bool). texts_of c.retain.new.self.items
    ≡ (if b then [] else filter (is_short longest) (words (chars c.args.value.now)))) (sym unnamed) kept
