mod FitFacts
