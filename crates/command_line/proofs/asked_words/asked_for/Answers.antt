use Rattle.std.proofs.Common.{refl, take, drop, inl, inr}
use Rattle.command_line.specs.Commands.{word_in}
use Rattle.command_line.specs.Words.{commands, actions, audit, certify, check, create, game, grow, load, look, migrate, moves, session}
use Rattle.command_line.proofs.CommandLine.{by_its_name}
use Rattle.command_line.proofs.asked_words.asked_for.Goals as goal

pub returns-in-create : goal.returns-in-create
returns-in-create c =
    by_its_name create (drop 1 commands) c.args.name.now (word_in c.args.inner.now) c.in-create.is
    (take 0 commands) c.create.result refl refl c.create.ensures

pub returns-in-load : goal.returns-in-load
returns-in-load c =
    by_its_name load (drop 2 commands) c.args.name.now (word_in c.args.inner.now) c.in-load.is
    (take 1 commands) c.load.result refl refl c.load.ensures

pub returns-in-session : goal.returns-in-session
returns-in-session c =
    by_its_name session (drop 3 commands) c.args.name.now (word_in c.args.inner.now) c.in-session.is
    (take 2 commands) c.session.result refl refl c.session.ensures

pub returns-in-look : goal.returns-in-look
returns-in-look c =
    by_its_name look (drop 4 commands) c.args.name.now (word_in c.args.inner.now) c.in-look.is
    (take 3 commands) c.look.result refl refl c.look.ensures

pub returns-in-game : goal.returns-in-game
returns-in-game c =
    by_its_name game (drop 5 commands) c.args.name.now (word_in c.args.inner.now) c.in-game.is
    (take 4 commands) c.game.result refl refl c.game.ensures

pub returns-in-audit : goal.returns-in-audit
returns-in-audit c =
    by_its_name audit (drop 6 commands) c.args.name.now (word_in c.args.inner.now) c.in-audit.is
    (take 5 commands) c.audit.result refl refl c.audit.ensures

pub returns-in-migrate : goal.returns-in-migrate
returns-in-migrate c =
    by_its_name migrate (drop 7 commands) c.args.name.now (word_in c.args.inner.now) c.in-migrate.is
    (take 6 commands) c.migrate.result refl refl c.migrate.ensures

pub returns-in-grow : goal.returns-in-grow
returns-in-grow c =
    by_its_name grow (drop 8 commands) c.args.name.now (word_in c.args.inner.now) c.in-grow.is
    (take 7 commands) c.grow.result refl refl c.grow.ensures

pub returns-in-moves : goal.returns-in-moves
returns-in-moves c =
    by_its_name moves (drop 9 commands) c.args.name.now (word_in c.args.inner.now) c.in-moves.is
    (take 8 commands) c.moves.result refl refl c.moves.ensures

pub returns-in-actions : goal.returns-in-actions
returns-in-actions c =
    by_its_name actions (drop 10 commands) c.args.name.now (word_in c.args.inner.now) c.in-actions.is
    (take 9 commands) c.actions.result refl refl c.actions.ensures

pub returns-in-certify : goal.returns-in-certify
returns-in-certify c =
    by_its_name certify (drop 11 commands) c.args.name.now (word_in c.args.inner.now) c.in-certify.is
    (take 10 commands) c.certify.result refl refl c.certify.ensures

pub returns-in-check : goal.returns-in-check
returns-in-check c =
    by_its_name check (drop 12 commands) c.args.name.now (word_in c.args.inner.now) c.in-check.is
    (take 11 commands) c.check.result refl refl c.check.ensures

pub returns-in_default : goal.returns-in_default
returns-in_default c = λ asked it.
    elim it [
      | inl h ↦ c.in_default.not-create h.0
      | inr rest ↦
          elim rest [
            | inl h ↦ c.in_default.not-load h.0
            | inr rest ↦
                elim rest [
                  | inl h ↦ c.in_default.not-session h.0
                  | inr rest ↦
                      elim rest [
                        | inl h ↦ c.in_default.not-look h.0
                        | inr rest ↦
                            elim rest [
                              | inl h ↦ c.in_default.not-game h.0
                              | inr rest ↦
                                  elim rest [
                                    | inl h ↦ c.in_default.not-audit h.0
                                    | inr rest ↦
                                        elim rest [
                                          | inl h ↦ c.in_default.not-migrate h.0
                                          | inr rest ↦
                                              elim rest [
                                                | inl h ↦ c.in_default.not-grow h.0
                                                | inr rest ↦
                                                    elim rest [
                                                      | inl h ↦ c.in_default.not-moves h.0
                                                      | inr rest ↦
                                                          elim rest [
                                                            | inl h ↦ c.in_default.not-actions h.0
                                                            | inr rest ↦
                                                                elim rest [
                                                                  | inl h ↦ c.in_default.not-certify h.0
                                                                  | inr rest ↦
                                                                      elim rest [
                                                                        | inl h ↦ c.in_default.not-check h.0
                                                                        | inr rest ↦
                                                                            rest
                                                                      ]
                                                                ]
                                                          ]
                                                    ]
                                              ]
                                        ]
                                  ]
                            ]
                      ]
                ]
          ]
    ]
