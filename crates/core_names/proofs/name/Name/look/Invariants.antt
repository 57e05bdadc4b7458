use Rattle.core_names.proofs.name.Name.look.Given as goal

abbrev pub ghosts-look_tagged-C-CountTag : goal.ghosts-look_tagged-C-CountTag
ghosts-look_tagged-C-CountTag a = record { thread = a.thread; at = 0; said = 0 }

abbrev pub ghosts-look_tagged-P-PermitTag : goal.ghosts-look_tagged-P-PermitTag
ghosts-look_tagged-P-PermitTag a = record { family = a.words.now.table.shared.key.1.family; at = 0 }
