-- The canonical text of a configuration is whole lines, none of which is a separator.
use Rattle.std.proofs.Common.{ℕ, ◌≡◌, ◌==◌, Bool, true, false, cond, List, [], ◌∷◌, ◌++◌, refl, sym, ap, ◌∙◌, append_assoc, append-nil, codes}
use Rattle.std.specs.Prelude.{flat_map}
use Rattle.std.specs.Str.{bytes_eq}
use Rattle.std.specs.Fmt.{decimal}
use Rattle.mt_word.specs.declared.Width.{Width}
use Rattle.mt_word.specs.Word.{width_bits}
use Rattle.mt_march.specs.declared.march.Order.{Order}
use Rattle.mt_march.specs.declared.march.Order.TheVariants.{Up, Down, Either}
use Rattle.mt_march.specs.declared.march.Op.{Op}
use Rattle.mt_march.specs.declared.march.Op.TheVariants.{R0, R1, W0, W1}
use Rattle.mt_march.specs.declared.march.Element.{Element}
use Rattle.mt_march.specs.Grammar.{Token, order_token, op_token, more_ops, all_ops, element_tokens, more_elements, march_tokens}
use Rattle.mt_march.specs.Canonical as march
use Rattle.mt_plan.specs.declared.algorithm.Algorithm.{Algorithm}
use Rattle.mt_plan.specs.declared.algorithm.Algorithm.TheVariants.{Checkerboard, March as Marches, WalkPath, Galpat, TransparentGalpat}
use Rattle.mt_plan.specs.declared.algorithm.Policy.{Policy}
use Rattle.mt_plan.specs.declared.algorithm.Policy.TheVariants.{NonDestructive, Destructive}
use Rattle.mt_blocks.specs.declared.config.Block.{Block}
use Rattle.mt_blocks.specs.declared.config.FlashBlock.{FlashBlock}
use Rattle.mt_blocks.specs.declared.config.ParamSet.{ParamSet}
use Rattle.mt_blocks.specs.declared.config.FlsConfig.{FlsConfig}
use Rattle.mt_hex.specs.Digits.{word_text}
use Rattle.mt_conf.specs.declared.config.Config.{Config}
use Rattle.mt_conf.specs.Canonical.{entry, number_entry, text_entry, header, policy_name, algorithm_entries, block_text, retries_entry, set_text, flash_block_text, fls_text, top_text, config_text}
use Rattle.mt_replay.specs.Input.{Ending, Finished, cut, separator, Parted, preceded_by, job_of}
use Rattle.mt_replay.proofs.Heads.{preceded_by-nil, preceded_by-again, job-separator, job-line}
use Rattle.mt_replay.proofs.Feedless.{feedless, no_feed, feedless-append, decimal_feedless, word_feedless, AreFeedless}

-- ---- marches

order_feedless : (o : Order) → feedless (order_token o) ≡ true
order_feedless Up = refl
order_feedless Down = refl
order_feedless Either = refl

op_feedless : (o : Op) → feedless (op_token o) ≡ true
op_feedless R0 = refl
op_feedless R1 = refl
op_feedless W0 = refl
op_feedless W1 = refl

more_ops_feedless : (ops : List Op) (tokens : List Token) → AreFeedless tokens → AreFeedless (more_ops ops tokens)
more_ops_feedless [] tokens h = (refl, h)
more_ops_feedless (o ∷ ops) tokens h = (refl, (op_feedless o, more_ops_feedless ops tokens h))

all_ops_feedless : (ops : List Op) (tokens : List Token) → AreFeedless tokens → AreFeedless (all_ops ops tokens)
all_ops_feedless [] tokens h = (refl, h)
all_ops_feedless (o ∷ ops) tokens h = (op_feedless o, more_ops_feedless ops tokens h)

element_feedless : (e : Element) (tokens : List Token) → AreFeedless tokens → AreFeedless (element_tokens e tokens)
element_feedless e tokens h = (order_feedless e.order, (refl, all_ops_feedless e.ops.items tokens h))

elements_feedless : (es : List Element) → AreFeedless (more_elements es)
elements_feedless [] = (refl, tt)
elements_feedless (e ∷ es) = (refl, element_feedless e (more_elements es) (elements_feedless es))

tokens_feedless : (es : List Element) → AreFeedless (march_tokens es)
tokens_feedless [] = tt
tokens_feedless (e ∷ es) = (refl, element_feedless e (more_elements es) (elements_feedless es))

shown_feedless : (token : Token) → feedless token ≡ true → feedless (march.shown token) ≡ true
shown_feedless token h = of (bytes_eq token (codes ";"))
  where
    of : (t : Bool) → feedless (cond t (codes "; ") token) ≡ true
    of true = refl
    of false = h

text_feedless : (tokens : List Token) → AreFeedless tokens → feedless (march.text_of tokens) ≡ true
text_feedless [] h = refl
text_feedless (token ∷ tokens) h = feedless-append (march.shown token) (march.text_of tokens) (shown_feedless token h.0) (text_feedless tokens h.1)

march_feedless : (es : List Element) → feedless (march.canonical es) ≡ true
march_feedless es = text_feedless (march_tokens es) (tokens_feedless es)

-- ---- whole lines

-- Whole lines that are no separator: what follows them decides the job.
record IsLines (front : List ℕ) : Type 0 where
  job : (ending : Ending) (rest : List ℕ) → job_of ending (front ++ rest) ≡ preceded_by front (job_of ending rest)

no_lines : IsLines []
no_lines = record { job = λ ending rest. sym (preceded_by-nil (job_of ending rest)) }

lines_then : (a b : List ℕ) → IsLines a → IsLines b → IsLines (a ++ b)
lines_then a b first second = record {
  job = λ ending rest.
      ap (job_of ending) (append_assoc a b rest) ∙ first.job ending (b ++ rest) ∙ ap (preceded_by a) (second.job ending rest) ∙ preceded_by-again a b (job_of ending rest);
}

one_line : (line : List ℕ) → feedless line ≡ true → bytes_eq line separator ≡ false → IsLines (line ++ 10 ∷ [])
one_line line feeds is = record { job = λ ending rest. ap (job_of ending) (append_assoc line (10 ∷ []) rest) ∙ job-line ending line rest (no_feed line feeds) is }

each_lines : {X : Type 0} (text : X → List ℕ) → ((x : X) → IsLines (text x)) → (xs : List X) → IsLines (flat_map text xs)
each_lines text h [] = no_lines
each_lines text h (x ∷ xs) = lines_then (text x) (flat_map text xs) (h x) (each_lines text h xs)

-- A key: no entry of it is a separator.
record IsKey (key : List ℕ) : Type 0 where
  feeds : feedless key ≡ true
  apart : (value : List ℕ) → bytes_eq (key ++ codes " = " ++ value) separator ≡ false

entry_lines : (key value : List ℕ) → IsKey key → feedless value ≡ true → IsLines (entry key value)
entry_lines key value k h = one_line (key ++ codes " = " ++ value) (feedless-append (key ++ codes " = ") value (feedless-append key (codes " = ") k.feeds refl) h) (k.apart value)

number_lines : (key : List ℕ) (n : ℕ) → IsKey key → IsLines (number_entry key n)
number_lines key n k = entry_lines key (decimal n) k (decimal_feedless n)

text_lines : (key text : List ℕ) → IsKey key → feedless text ≡ true → IsLines (text_entry key text)
text_lines key text k h = entry_lines key (codes "\"" ++ text ++ codes "\"") k (feedless-append text (codes "\"") h refl)

header_lines : (name : List ℕ) → feedless name ≡ true → bytes_eq name separator ≡ false → IsLines (header name)
header_lines name feeds is = lines_then (10 ∷ []) (name ++ 10 ∷ []) (one_line [] refl refl) (one_line name feeds is)

-- ---- the configuration

policy_feedless : (p : Policy) → feedless (policy_name p) ≡ true
policy_feedless NonDestructive = refl
policy_feedless Destructive = refl

is_algorithm : IsKey (codes "algorithm")
is_algorithm = record { feeds = refl; apart = λ value. refl }

is_first : IsKey (codes "first")
is_first = record { feeds = refl; apart = λ value. refl }

is_last : IsKey (codes "last")
is_last = record { feeds = refl; apart = λ value. refl }

is_atomic : IsKey (codes "atomic")
is_atomic = record { feeds = refl; apart = λ value. refl }

is_cells : IsKey (codes "cells")
is_cells = record { feeds = refl; apart = λ value. refl }

algorithm_lines : (a : Algorithm) → IsLines (algorithm_entries a)
algorithm_lines Checkerboard = text_lines (codes "algorithm") (codes "checkerboard") is_algorithm refl
algorithm_lines (Marches m) =
    lines_then (text_entry (codes "algorithm") (codes "march")) (text_entry (codes "march") (march.canonical m.elements.items)) (text_lines (codes "algorithm") (codes "march") is_algorithm refl)
    (text_lines (codes "march") (march.canonical m.elements.items) (record { feeds = refl; apart = λ value. refl }) (march_feedless m.elements.items))
algorithm_lines WalkPath = text_lines (codes "algorithm") (codes "walk-path") is_algorithm refl
algorithm_lines Galpat = text_lines (codes "algorithm") (codes "galpat") is_algorithm refl
algorithm_lines TransparentGalpat = text_lines (codes "algorithm") (codes "transparent-galpat") is_algorithm refl

block_lines : (width : Width) (b : Block) → IsLines (block_text width b)
unfolding block_text
block_lines width b =
    lines_then _ _
    (lines_then _ _
    (lines_then _ _ (lines_then _ _ (header_lines (codes "[[set.block]]") refl refl) (number_lines (codes "first") b.span.first is_first)) (number_lines (codes "last") b.span.last is_last))
    (text_lines (codes "policy") (policy_name b.policy) (record { feeds = refl; apart = λ value. refl }) (policy_feedless b.policy)))
    (text_lines (codes "fill") (word_text width b.fill) (record { feeds = refl; apart = λ value. refl }) (word_feedless width b.fill))

retries_lines : (version retries : ℕ) → IsLines (retries_entry version retries)
retries_lines version retries = of (version == 2)
  where
    of : (second : Bool) → IsLines (cond second (number_entry (codes "retries") retries) [])
    of true = number_lines (codes "retries") retries (record { feeds = refl; apart = λ value. refl })
    of false = no_lines

set_lines : (version : ℕ) (width : Width) (set : ParamSet) → IsLines (set_text version width set)
unfolding set_text
set_lines version width set =
    lines_then _ _
    (lines_then _ _
    (lines_then _ _
    (lines_then _ _
    (lines_then _ _ (lines_then _ _ (header_lines (codes "[[set]]") refl refl) (algorithm_lines set.alg))
    (text_lines (codes "background") (word_text width set.background) (record { feeds = refl; apart = λ value. refl }) (word_feedless width set.background)))
    (number_lines (codes "atomic") set.atomic is_atomic))
    (number_lines (codes "cells") set.cells is_cells))
    (retries_lines version set.retries))
    (each_lines (block_text width) (block_lines width) set.blocks)

flash_block_lines : (name : List ℕ) → IsLines (header name) → (b : FlashBlock) → IsLines (flash_block_text name b)
unfolding flash_block_text
flash_block_lines name first b =
    lines_then _ _ (lines_then _ _ (lines_then _ _ first (number_lines (codes "first") b.span.first is_first)) (number_lines (codes "last") b.span.last is_last))
    (number_lines (codes "copy") b.copy (record { feeds = refl; apart = λ value. refl }))

flash_blocks_lines : (name : List ℕ) → IsLines (header name) → (blocks : List FlashBlock) → IsLines (flat_map (flash_block_text name) blocks)
flash_blocks_lines name first blocks = each_lines (flash_block_text name) (flash_block_lines name first) blocks

fls_lines : (fls : FlsConfig) → IsLines (fls_text fls)
unfolding fls_text
fls_lines fls =
    lines_then _ _
    (lines_then _ _
    (lines_then _ _
    (lines_then _ _ (lines_then _ _ (header_lines (codes "[fls]") refl refl) (number_lines (codes "atomic") fls.atomic is_atomic)) (number_lines (codes "cells") fls.cells is_cells))
    (number_lines (codes "interval_end") fls.interval_end (record { feeds = refl; apart = λ value. refl })))
    (flash_blocks_lines (codes "[[fls.bgnd]]") (header_lines (codes "[[fls.bgnd]]") refl refl) fls.bgnd))
    (flash_blocks_lines (codes "[[fls.fgnd]]") (header_lines (codes "[[fls.fgnd]]") refl refl) fls.fgnd)

top_lines : (c : Config) → IsLines (top_text c)
unfolding top_text
top_lines c =
    lines_then _ _
    (lines_then _ _
    (lines_then _ _
    (lines_then _ _ (number_lines (codes "version") c.version (record { feeds = refl; apart = λ value. refl }))
    (number_lines (codes "width") (width_bits c.shape.width) (record { feeds = refl; apart = λ value. refl })))
    (number_lines (codes "ram") c.shape.ram (record { feeds = refl; apart = λ value. refl })))
    (number_lines (codes "flash") c.shape.flash (record { feeds = refl; apart = λ value. refl })))
    (text_lines (codes "initial") (word_text c.shape.width c.initial) (record { feeds = refl; apart = λ value. refl }) (word_feedless c.shape.width c.initial))

config_lines : (c : Config) → IsLines (config_text c)
unfolding config_text
config_lines c = lines_then _ _ (lines_then _ _ (top_lines c) (each_lines (set_text c.version c.shape.width) (set_lines c.version c.shape.width) c.ram_tst.sets)) (fls_lines c.fls_tst)

-- the job of a canonical configuration, its separator and a script
pub opening_parts : (c : Config) (rest : List ℕ) → job_of Finished ((config_text c ++ codes "=====\n") ++ rest) ≡ Parted (config_text c) (cut rest)
opening_parts c rest =
    ap (job_of Finished) (append_assoc (config_text c) (codes "=====\n") rest) ∙ (config_lines c).job Finished (separator ++ 10 ∷ rest)
    ∙ ap (preceded_by (config_text c)) (job-separator Finished separator rest (no_feed separator refl) refl) ∙ ap (λ (l : List ℕ). Parted l (cut rest)) (append-nil (config_text c))
