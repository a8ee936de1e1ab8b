-- Reports that say the same.
use Rattle.std.proofs.Common.{◌≡◌, ◌∙◌, List, [], ◌∷◌, map, refl, sym, ap}
use Rattle.hpb_house.specs.Reports.{Said, said}
use Rattle.hpb_rings.specs.declared.report.Report.{Report}

seats_said : (reports : List Report) → map (λ (it : Said). it.seat) (map said reports) ≡ map (λ (report : Report). report.seat) reports
seats_said [] = refl
seats_said (report ∷ reports) = ap (λ seats. report.seat ∷ seats) (seats_said reports)

-- they are of the same seats
pub same_seats : (new old : List Report) → map said new ≡ map said old → map (λ (report : Report). report.seat) new ≡ map (λ (report : Report). report.seat) old
same_seats new old same = sym (seats_said new) ∙ ap (map (λ (it : Said). it.seat)) same ∙ seats_said old
