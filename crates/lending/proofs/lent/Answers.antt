-- The code that the compiler makes of `lent` is the function of the law `returned_meets`, at g = `post`.
use mathlib.Core.Path.{◌≡◌, refl}
use contract.Running.{tables, tables_of}
use denote.Triple.Spec.{triple_of}
use denote.Triple.Table.{entered}
use Rattle.lending.specs.Lent.{posted_of}
use Rattle.lending.specs.contracts.lent as f
use Rattle.lending.proofs.Returning.{function, returned_meets}
use Rattle.lending.proofs.post.Symbol as P
use Rattle.lending.proofs.post.Met.{met}
use Rattle.lending.proofs.lent.Statement.{statement}
use Rattle.lending.proofs.lent.Code as L

pub lent_is_returning : L.function ≡ function P.name
lent_is_returning = refl

-- so what `post` is proved to do gives, by that law, what `lent` does
pub lent_by_law : {M : Type 1} → statement M
unfolding tables_of
lent_by_law 𝓤 𝓛 𝓜 𝓡 wired =
    let 𝓣 = tables 𝓤 𝓛.H 𝓜 𝓡 𝓡.env in
    entered 𝓤 𝓛.H (triple_of 𝓛 f.signature (f.spec 𝓛 𝓜.mem 𝓡.returns)) 𝓣.C 𝓣.Λ f.Key.name L.function (L.unfolded 𝓤 𝓛.H 𝓜 𝓡 wired)
    (returned_meets posted_of P.name 𝓛 (tables_of 𝓤 𝓛.H 𝓜 𝓣) (met 𝓤 𝓛 𝓜 𝓡 (L.calls-lending::post 𝓡.env wired)))
