use Rattle.hpb_rules.proofs.CertificateProofs
use Rattle.hpb_rules.proofs.laws.certificates.Goals as goal

pub returns : goal.returns
returns c = CertificateProofs.certificates
