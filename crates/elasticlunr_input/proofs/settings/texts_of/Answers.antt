use Rattle.std.proofs.Common.{◌≡◌, ◌<◌, ◌+◌, ◌++◌, ◌∷◌, [], ℕ, List, Bor, String, Global, map, take, length, get_or}
use Rattle.std.proofs.Common.{string_bytes, sym, ap, ◌∙◌}
use Rattle.std.proofs.lemmas.List.{map-append, map_more, take_all}
use Rattle.elasticlunr_text.specs.Text.{Bytes, bytes_of}
use Rattle.elasticlunr_input.proofs.settings.texts_of.Goals as goal

-- the text of one string more
one_more : (texts more : List (Bor Bytes)) (s : Bor Bytes) (names : List (String Global)) (i : ℕ) (name : String Global)
    → i < length names → name ≡ get_or names i name → s.now ≡ string_bytes name
    → more ≡ texts ++ s ∷ [] → map (λ s. s.now) texts ≡ bytes_of (take i names) → map (λ s. s.now) more
    ≡ bytes_of (take (i + 1) names)
one_more texts more s names i name lt is told all so_far =
    ap (map (λ s. s.now)) all ∙ (map-append (λ s. s.now) texts (s ∷ []) ∙ (ap (λ ts. ts ++ s.now ∷ []) so_far
    ∙ (ap (λ t. bytes_of (take i names) ++ t ∷ []) (told ∙ ap string_bytes is)
    ∙ sym (map_more string_bytes names i name lt))))

pub loop-name-preserved : goal.loop-name-preserved
loop-name-preserved c = one_more c.loop-name.texts.items c.push.new.self.items c.as_str.result c.args.names.now
    c.loop-name.name-index c.name-item.result c.loop-name-test.true c.name-item.is c.as_str.ensures.value
    c.in_ok-push.ensures.items c.loop-name.invariant

pub returns : goal.returns
returns c = c.loop-name.invariant ∙ ap bytes_of
    (take_all c.loop-name.name-index c.args.names.now c.loop-name-test.false)
