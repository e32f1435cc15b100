-- The first of those that are left whose sum is wrong, and where it begins.
-- Assumes nothing.
use Rattle.std.proofs.Common.{◌≡◌, Option, Some, None, refl, ap, ◌∙◌, rules}
use Rattle.std.specs.Option.{option_map}
use Rattle.std.specs.List.{find}
use Rattle.std.proofs.lemmas.Iterator.Search.{find_from_yields_List}
use Rattle.std.proofs.lemmas.Iterator.Consumers.{YieldsList-from_first}
use borrow.Author.Tests.{tests}
use Rattle.ospf_lsas.specs.declared.Lsa as code
use Rattle.ospf_lsas.specs.Lsa.{Lsa, wrong_sum}
use Rattle.ospf_lsas.specs.Opened.{lsa_seen, lsas_left}
use Rattle.ospf_lsas.proofs.Lsas.first_wrong_sum.Goals as goal

offset_seen : (o : Option code.Lsa) → option_map (λ (l : code.Lsa). l.at) o ≡ option_map (λ (l : Lsa). l.at) (option_map lsa_seen o)
offset_seen None = refl
offset_seen (Some l) = refl

pub returns : goal.returns
returns c =
    let found : option_map lsa_seen c.find.result ≡ find (λ (l : Lsa). wrong_sum l.bytes) (lsas_left c.args.self) =
    find_from_yields_List (λ l. wrong_sum l.bytes) c.find.new.self _ c.find.result c.find.ensures.ran (YieldsList-from_first lsa_seen lsas_left {s = c.args.self} _ refl) (λ x b q k. search (rules, tests)) in
    let is : c.map.result ≡ option_map (λ (l : code.Lsa). l.at) c.find.result = search rules in
    is ∙ offset_seen c.find.result ∙ ap (option_map (λ (l : Lsa). l.at)) found
