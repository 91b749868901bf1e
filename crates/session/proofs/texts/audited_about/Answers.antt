use Rattle.session.proofs.texts.audited_about.Goals as goal
